-- A table that gets an entry of a new name.
use Rattle.std.proofs.Common.{◌≡◌, ℕ, ◌+◌, ◌^◌, ◌<◌, ◌≤◌, Bool, false, cond, ◌&&◌, nat_eq, List, [], ◌∷◌, ◌++◌, map, length, take, get_or, Option, Some, None, refl, sym, ap, ◌∙◌, subst, Vec, Global, arith}
use lib.Pointwise.{pointwise}
use Rattle.std.specs.Prelude.{All, AllPairs}
use Rattle.std.specs.List.{AllByRecursion, filter_map, cons_option}
use Rattle.std.proofs.lemmas.List.Elements.{recursion_from_All, All-from_recursion, All-push, filter_map-append}
use Rattle.std.proofs.lemmas.List.{take_more, get_or-take, get_or_default, length-take, length-map, length_push, append-nil}
use Rattle.indexmap.specs.IndexMap.{insert_entry}
use Rattle.nt_bytes.specs.Folding.{folded, folds_same}
use Rattle.hive_model.specs.Tree.{Tree, head}
use Rattle.start_model.specs.Entries.{Entry, entry_of, entry_with}
use Rattle.boot_phases.specs.service_entries.Keyed.{AreKeyed}
use Rattle.boot_phases.specs.service_entries.Named.{place_named}
use Rattle.std.specs.List.{position_or_len}
use Rattle.std.specs.Prelude.{position, not, nat_lt, true, zero, suc}
use Rattle.std.specs.Option.{option_map_or}
use Rattle.std.specs.Cmp.Lexicographic.{nat_list_eq_equiv}
use Rattle.std.proofs.lemmas.Bool.Decides.{nat_tests}
use Rattle.reg_tree.proofs.Unlike.{Each, Unlike, unlike_from, unlike_pairs, unlike_push, each_from, folds_swap}
use Rattle.boot_phases.specs.service_entries.Named.{NamesDiffer, is_named_at, IsOnlyPlace}
use Rattle.nt_names.proofs.FoldLemmas.{folded_pointwise}

abbrev Pair : Type 0
Pair = Vec ℕ Global × Entry

abbrev same_key : Vec ℕ Global → Vec ℕ Global → Bool
same_key a b = pointwise nat_eq a.items b.items

insert_new : (es : List Pair) (key : Vec ℕ Global) (entry : Entry)
    → AllByRecursion (λ (e : Pair). e.0.items ≡ folded e.1.name) es → key.items ≡ folded entry.name
    → AllByRecursion (λ (e : Entry). folds_same entry.name e.name ≡ false) (map (λ (e : Pair). e.1) es)
    → insert_entry same_key es key entry ≡ es ++ (key, entry) ∷ []
insert_new [] key entry keyed is new = refl
insert_new (e ∷ es) key entry keyed is new =
    let differ : same_key key e.0 ≡ false =
    ap (λ xs. pointwise nat_eq xs e.0.items) is ∙ ap (pointwise nat_eq (folded entry.name)) keyed.0
    ∙ folded_pointwise entry.name e.1.name ∙ new.0 in
    ap (λ b. cond b ((e.0, entry) ∷ es) (e ∷ insert_entry same_key es key entry)) differ
    ∙ ap (λ es. e ∷ es) (insert_new es key entry keyed.1 is new.1)

pub pushed : (es : List Pair) (key : Vec ℕ Global) (entry : Entry) → AreKeyed es → key.items ≡ folded entry.name
    → All (λ (e : Entry). folds_same entry.name e.name ≡ false) (map (λ (e : Pair). e.1) es)
    → insert_entry same_key es key entry ≡ es ++ (key, entry) ∷ []
pushed es key entry keyed is new =
    insert_new es key entry (recursion_from_All _ es keyed.keyed) is
    (recursion_from_All (λ (e : Entry). folds_same entry.name e.name ≡ false) (map (λ (e : Pair). e.1) es) new)

pub values_push : (es : List Pair) (key : Vec ℕ Global) (entry : Entry)
    → map (λ (e : Pair). e.1) (es ++ (key, entry) ∷ []) ≡ map (λ (e : Pair). e.1) es ++ entry ∷ []
values_push [] key entry = refl
values_push (e ∷ es) key entry = ap (λ xs. e.1 ∷ xs) (values_push es key entry)

differ_push : (es : List Entry) (entry : Entry) → NamesDiffer es
    → All (λ (e : Entry). folds_same entry.name e.name ≡ false) es
    → NamesDiffer (es ++ entry ∷ [])
differ_push es entry differ new =
    unlike_pairs (λ (e : Entry). e.name) (es ++ entry ∷ [])
    (unlike_push (λ (e : Entry). e.name) es entry (unlike_from (λ (e : Entry). e.name) es differ)
    (each_from (λ (e : Entry). folds_same entry.name e.name ≡ false) es new))

pub keyed_push : (es : List Pair) (key : Vec ℕ Global) (entry : Entry) → AreKeyed es → key.items ≡ folded entry.name
    → All (λ (e : Entry). folds_same entry.name e.name ≡ false) (map (λ (e : Pair). e.1) es)
    → length (map (λ (e : Pair). e.1) es) + 1 < 2 ^ 32 → AreKeyed (es ++ (key, entry) ∷ [])
keyed_push es key entry keyed is new room = record {
  keyed = All-push (λ (e : Pair). e.0.items ≡ folded e.1.name) es (key, entry) keyed.keyed is;
  differ = rw (values_push es key entry) (differ_push (map (λ (e : Pair). e.1) es) entry keyed.differ new);
  few = omega (arith, room, length-map es (λ (e : Pair). e.1), length_push es (key, entry));
}

name_of : (t : Tree) (e : Entry) (start kind : Option ℕ) → entry_with t start kind ≡ Some e → e.name ≡ (head t).name
name_of t e (Some start) (Some kind) h = sym (ap (λ (o : Option Entry). elim o [ Some e ↦ e.name | None ↦ [] ]) h)
name_of t e (Some start) None h = absurd cc
name_of t e None kind h = absurd cc

-- the entries of earlier keys have other names
pub earlier_differ : (ts : List Tree) (name : List ℕ) → AllByRecursion (λ t. folds_same name (head t).name ≡ false) ts
    → AllByRecursion (λ (e : Entry). folds_same name e.name ≡ false) (filter_map entry_of ts)
earlier_differ [] name h = tt
earlier_differ (t ∷ ts) name h = by_case (entry_of t) refl (earlier_differ ts name h.1)
  where
    by_case : (o : Option Entry) → entry_of t ≡ o
        → AllByRecursion (λ (e : Entry). folds_same name e.name ≡ false) (filter_map entry_of ts)
        → AllByRecursion (λ (e : Entry). folds_same name e.name ≡ false) (cons_option o (filter_map entry_of ts))
    by_case None e rest = rest
    by_case (Some x) e rest = (ap (folds_same name) (name_of t x _ _ e) ∙ h.0, rest)

pub earlier_entries_differ : (ts : List Tree) (i : ℕ) (t : Tree) (e : Entry)
    → AllPairs (λ a b. folds_same (head b).name (head a).name ≡ false) ts → i < length ts → t ≡ get_or ts i t
    → entry_of t ≡ Some e
    → All (λ (x : Entry). folds_same e.name x.name ≡ false) (filter_map entry_of (take i ts))
earlier_entries_differ ts i t e apart lt at is =
    let name = name_of t e _ _ is in
    let P : Tree → Type 0 = λ s. folds_same e.name (head s).name ≡ false in
    let all : All P (take i ts) = λ k d below.
    (let k_lt : k < i = omega (arith, length-take i ts) in
    let here : get_or (take i ts) k d ≡ get_or ts k d = get_or-take i ts k d k_lt in
    let there : get_or ts i d ≡ t = get_or_default ts i d t lt ∙ sym at in
    ap (λ s. folds_same e.name (head s).name) here ∙ ap (λ n. folds_same n (head (get_or ts k d)).name) name
    ∙ ap (λ s. folds_same (head s).name (head (get_or ts k d)).name) (sym there) ∙ apart k i d k_lt lt) in
    All-from_recursion _ _ (earlier_differ (take i ts) e.name (recursion_from_All P (take i ts) all))

pub filter_map_more : (ts : List Tree) (i : ℕ) (t : Tree) → i < length ts → t ≡ get_or ts i t
    → filter_map entry_of (take (i + 1) ts) ≡ filter_map entry_of (take i ts) ++ cons_option (entry_of t) []
filter_map_more ts i t lt at =
    ap (filter_map entry_of) (take_more ts i t lt ∙ ap (λ s. take i ts ++ s ∷ []) (sym at))
    ∙ filter_map-append entry_of (take i ts) (t ∷ [])

pub key_is : {a b : List ℕ} → a ≡ b → folded a ≡ folded b
key_is h = ap folded h

pub new_there : (name : List ℕ) {a b : List Entry} → a ≡ b → All (λ (e : Entry). folds_same name e.name ≡ false) b
    → All (λ (e : Entry). folds_same name e.name ≡ false) a
new_there name h all = let P : List Entry → Type 0 = λ xs. All (λ (e : Entry). folds_same name e.name ≡ false) xs in
    subst P (sym h) all

pub more_some : (ts : List Tree) (i : ℕ) (t : Tree) (e : Entry) (o : Option Entry) (xs : List Entry) → i < length ts
    → t ≡ get_or ts i t → o ≡ entry_of t → o ≡ Some e → xs ≡ filter_map entry_of (take i ts)
    → xs ++ e ∷ [] ≡ filter_map entry_of (take (i + 1) ts)
more_some ts i t e o xs lt at is some so_far =
    ap (λ xs. xs ++ e ∷ []) so_far ∙ ap (λ o. filter_map entry_of (take i ts) ++ cons_option o []) (sym some ∙ is)
    ∙ sym (filter_map_more ts i t lt at)

pub more_none : (ts : List Tree) (i : ℕ) (t : Tree) (o : Option Entry) (xs : List Entry) → i < length ts
    → t ≡ get_or ts i t → o ≡ entry_of t → o ≡ None → xs ≡ filter_map entry_of (take i ts)
    → xs ≡ filter_map entry_of (take (i + 1) ts)
more_none ts i t o xs lt at is none so_far =
    so_far ∙ sym (append-nil (filter_map entry_of (take i ts)))
    ∙ ap (λ o. filter_map entry_of (take i ts) ++ cons_option o []) (sym none ∙ is)
    ∙ sym (filter_map_more ts i t lt at)

length-filter_map : (ts : List Tree) → length (filter_map entry_of ts) ≤ length ts
length-filter_map [] = omega arith
length-filter_map (t ∷ ts) = by_case (entry_of t) (length-filter_map ts)
  where
    by_case : (o : Option Entry) → length (filter_map entry_of ts) ≤ length ts
        → length (cons_option o (filter_map entry_of ts)) ≤ length (t ∷ ts)
    by_case None rest = omega arith
    by_case (Some e) rest = omega arith

-- what was read before a key is short of all keys
pub room_for : (ts : List Tree) (i : ℕ) (xs : List Entry) → i < length ts → length ts < 2 ^ 32
    → xs ≡ filter_map entry_of (take i ts) → length xs + 1 < 2 ^ 32
room_for ts i xs lt few is =
    let n : length xs ≡ length (filter_map entry_of (take i ts)) = ap length is in
    omega (arith, n, length-filter_map (take i ts), length-take i ts)

same_places : (es : List Pair) (name : List ℕ) → AllByRecursion (λ (e : Pair). e.0.items ≡ folded e.1.name) es
    → position_or_len (λ (k : Vec ℕ Global). pointwise nat_eq name k.items) (map (λ (e : Pair). e.0) es)
    ≡ position_or_len (λ (e : Entry). pointwise nat_eq name (folded e.name)) (map (λ (e : Pair). e.1) es)
same_places [] name keyed = refl
same_places (e ∷ es) name keyed =
    ap (λ k. cond (not (pointwise nat_eq name k))
    (1 + position_or_len (λ (k : Vec ℕ Global). pointwise nat_eq name k.items) (map (λ (e : Pair). e.0) es)) 0)
    keyed.0
    ∙ ap (λ n. cond (not (pointwise nat_eq name (folded e.1.name))) (1 + n) 0) (same_places es name keyed.1)

-- the place of a key is the place of the entry with that folded name
pub place_of_key : (es : List Pair) (name : List ℕ) → AreKeyed es
    → position (λ (k : Vec ℕ Global). pointwise nat_eq name k.items) (map (λ (e : Pair). e.0) es)
    ≡ place_named name (map (λ (e : Pair). e.1) es)
place_of_key es name keyed =
    let same = same_places es name (recursion_from_All _ es keyed.keyed) in
    let n : length (map (λ (e : Pair). e.0) es) ≡ length (map (λ (e : Pair). e.1) es) =
    length-map es (λ (e : Pair). e.0) ∙ sym (length-map es (λ (e : Pair). e.1)) in
    λ j. cond (nat_lt (same j) (n j)) (Some (same j)) None

-- ---- the only place of a name

abbrev is_key : List ℕ → Entry → Bool
is_key name e = pointwise nat_eq (folded name) (folded e.name)

-- what has no name of those that fold to one has not the other either
alike_off : (q n m : List ℕ) → folds_same q n ≡ true → folds_same m n ≡ false → folds_same q m ≡ false
alike_off q n m same off =
    sym (folded_pointwise q m) ∙ nat_list_eq_equiv.congr (folded q) (folded n) (folded m) (folded_pointwise q n ∙ same)
    ∙ folded_pointwise n m ∙ folds_swap n m ∙ off

none_later : (name n : List ℕ) (es : List Entry) (q : ℕ) → folds_same name n ≡ true
    → Each (λ (e : Entry). folds_same e.name n ≡ false) es
    → is_named_at name es q ≡ false
none_later name n [] q same off = refl
none_later name n (e ∷ es) zero same off = alike_off name n e.name same off.0
none_later name n (e ∷ es) (suc q) same off = none_later name n es q same off.1

first_here : (b : Bool) (n m : ℕ) → (nat_eq 0 (cond (not b) (1 + n) 0) && nat_lt 0 (suc m)) ≡ b
first_here b n m = grind (arith, nat_tests)

later_where : (q n m : ℕ) → (nat_eq (suc q) (1 + n) && nat_lt (suc q) (suc m)) ≡ (nat_eq q n && nat_lt q m)
later_where q n m = grind (arith, nat_tests)

not_later : (q m : ℕ) → (nat_eq (suc q) 0 && nat_lt (suc q) (suc m)) ≡ false
not_later q m = grind (arith, nat_tests)

none_at_all : (q : ℕ) → (nat_eq q 0 && nat_lt q 0) ≡ false
none_at_all q = grind (arith, nat_tests)

where_named : (name : List ℕ) (es : List Entry) (q : ℕ) → Unlike (λ (e : Entry). e.name) es
    → is_named_at name es q ≡ (nat_eq q (position_or_len (is_key name) es) && nat_lt q (length es))
where_named name [] q h = sym (none_at_all q)
where_named name (e ∷ es) zero h =
    sym (folded_pointwise name e.name) ∙ sym (first_here (is_key name e) (position_or_len (is_key name) es) (length es))
where_named name (e ∷ es) (suc q) h = by_case (is_key name e) refl (where_named name es q h.1)
  where
    rest : ℕ
    rest = position_or_len (is_key name) es

    by_case : (b : Bool) → is_key name e ≡ b → is_named_at name es q ≡ (nat_eq q rest && nat_lt q (length es))
        → is_named_at name es q ≡ (nat_eq (suc q) (cond (not b) (1 + rest) 0) && nat_lt (suc q) (suc (length es)))
    by_case true is deep =
        none_later name e.name es q (sym (folded_pointwise name e.name) ∙ is) h.0 ∙ sym (not_later q (length es))
    by_case false is deep = deep ∙ sym (later_where q rest (length es))

at_most : (q n m : ℕ) → (nat_eq q n && nat_lt q m) ≡ cond (nat_lt n m) (nat_eq q n) false
at_most q n m = grind (arith, nat_tests)

given : (b : Bool) (q n : ℕ) → cond b (nat_eq q n) false ≡ option_map_or (nat_eq q) (cond b (Some n) None) false
given true q n = refl
given false q n = refl

pub only_place : (name : List ℕ) (es : List Entry) → NamesDiffer es → IsOnlyPlace name es (place_named (folded name) es)
only_place name es differ q =
    let n = position_or_len (is_key name) es in
    where_named name es q (unlike_from (λ (e : Entry). e.name) es differ) ∙ at_most q n (length es)
    ∙ given (nat_lt n (length es)) q n

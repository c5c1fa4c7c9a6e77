-- The tree of a set has no line against itself.
use Rattle.std.proofs.Common.{◌≡◌, ℕ, ◌+◌, Bool, true, false, not, ◌&&◌, cond, nat_eq, List, [], ◌∷◌, ◌++◌, map, refl, sym, ap, ◌∙◌, arith}
use Rattle.std.specs.Prelude.{Option, Some, bytes_eq, count_by, fold}
use Rattle.std.specs.List.{list_all, flat_map}
use Rattle.std.specs.Option.{option_map_or}
use Rattle.std.proofs.lemmas.Bool.{eq-eqb, and_parts}
use Rattle.std.proofs.lemmas.Slice.Eq.{bytes_eq-Decides}
use Rattle.nt_bytes.specs.Counts.{capped}
use Rattle.hive_model.specs.Tree.{key_count, Head, Item, Tree, Trees, key, none, more, head, listed}
use Rattle.hive_model.specs.Valid.{HoldsKeys, AllHoldKeys, IsKey}
use Rattle.reg_tree.proofs.Unlike.{Each, Unlike, unlike_from}
use Rattle.answer_lines.specs.declared.diff_lines.lines.DiffLine.{DiffLine}
use Rattle.answer_lines.specs.declared.diff_lines.lines.DiffLine.TheVariants.{KeyDiffers, KeyOnly, ValueDiffers, ValueOnly}
use Rattle.answer_lines.specs.declared.diff_lines.lines.KeyField.{KeyField}
use Rattle.answer_lines.specs.declared.diff_lines.lines.KeyField.TheVariants.{Name, Class, Security, Values, Keys}
use Rattle.answer_lines.specs.declared.diff_lines.lines.Side.{Side}
use Rattle.answer_lines.specs.declared.diff_lines.lines.Side.TheVariants.{First, Second}
use Rattle.set_diff.specs.Listed.{has, shared}
use Rattle.set_diff.specs.Shown.{names_same}
use Rattle.tree_diff.specs.declared.whole.Marks.{Marks}
use Rattle.tree_diff.specs.Heads.{item_names, key_names, item_named, tree_named, field_lines, name_lines, order_lines, heads_lines, same_item, data_line, item_lines, paired_items, lone_item, lone_items, items_lines, lone_key, lone_keys, both_lone_keys, orders_lines, content_lines, own_lines}
use Rattle.tree_diff.specs.Trees.{key_lines, keys_lines, marks_of, key_marks, keys_marks, stamps_lines, flags_lines, marks_lines, trees_lines}
use Rattle.diff_laws.specs.diff_laws.Laws.{is_none}
use Rattle.diff_laws.specs.diff_laws.Own.{OwnTree}
use Rattle.diff_laws.proofs.AgreeLemmas.{and_of, nil_of}
use Rattle.diff_laws.proofs.NoneLemmas.{none_append, none_when}
use Rattle.diff_laws.proofs.OwnLemmas.{names_self, has_self, each_more, own_named}

bytes_self : (bs : List ℕ) → bytes_eq bs bs ≡ true
bytes_self bs = (bytes_eq-Decides bs bs).1 refl

-- ---- parts without a line

none_both : (xs ys : List DiffLine) → is_none xs ≡ true → is_none ys ≡ true → is_none (xs ++ ys) ≡ true
none_both xs ys e f = none_append xs ys ∙ and_of (is_none xs) (is_none ys) e f

none_three : (xs ys zs : List DiffLine) → is_none xs ≡ true → is_none ys ≡ true → is_none zs ≡ true → is_none (xs ++ ys ++ zs) ≡ true
none_three xs ys zs e f g = none_both (xs ++ ys) zs (none_both xs ys e f) g

none_each : {X : Type 0} (f : X → List DiffLine) (xs : List X) → Each (λ x. is_none (f x) ≡ true) xs → is_none (flat_map f xs) ≡ true
none_each f [] each = refl
none_each f (x ∷ xs) each = none_both (f x) (flat_map f xs) each.0 (none_each f xs each.1)

-- each item's name is among the names
each_has : {X : Type 0} (name : X → List ℕ) (p : List ℕ → Bool) (xs : List X) → list_all p (map name xs) ≡ true
    → Each (λ x. p (name x) ≡ true) xs
each_has name p [] all = tt
each_has name p (x ∷ xs) all =
    let both = and_parts (p (name x)) (list_all p (map name xs)) all in
    (both.0, each_has name p xs both.1)

-- ---- two keys that are one

field_self : (field : KeyField) (path : List (List ℕ)) (bs : List ℕ) → is_none (field_lines field path bs bs) ≡ true
field_self field path bs =
    none_when (not (bytes_eq bs bs)) (KeyDiffers field path) ∙ ap (λ b. not (not b)) (bytes_self bs)

name_self : (top : Bool) (path : List (List ℕ)) (bs : List ℕ) → is_none (name_lines top path bs bs) ≡ true
name_self true path bs = refl
name_self false path bs = field_self Name path bs

order_self : (field : KeyField) (path ns : List (List ℕ)) → is_none (order_lines field path ns ns) ≡ true
order_self field path ns =
    none_when (not (names_same (shared ns ns) (shared ns ns))) (KeyDiffers field path) ∙ ap (λ b. not (not b)) (names_self (shared ns ns))

heads_self : (top : Bool) (path : List (List ℕ)) (h : Head) → is_none (heads_lines top path h h) ≡ true
heads_self top path h =
    none_three (name_lines top path h.name h.name) (field_lines Class path h.class h.class) (field_lines Security path h.security h.security)
    (name_self top path h.name) (field_self Class path h.class) (field_self Security path h.security)

-- ---- their values

same_self : (v : Item) → same_item v v ≡ true
same_self v =
    and_of (nat_eq v.kind v.kind && bytes_eq v.name v.name) (bytes_eq v.bytes v.bytes)
    (and_of (nat_eq v.kind v.kind) (bytes_eq v.name v.name) (eq-eqb v.kind v.kind refl) (bytes_self v.name)) (bytes_self v.bytes)

item_self : (path : List (List ℕ)) (v : Item) → is_none (item_lines path v v) ≡ true
item_self path v =
    ap (λ (b : Bool). is_none (cond b [] (ValueDiffers v.name path ∷ data_line First v ∷ data_line Second v ∷ []))) (same_self v)

lone_item_self : (side : Side) (path others : List (List ℕ)) (v : Item) → has others v.name ≡ true
    → is_none (lone_item side path others v) ≡ true
lone_item_self side path others v there =
    ap (λ (b : Bool). is_none (cond (not b) (ValueOnly side v.name path ∷ data_line side v ∷ []) [])) there

items_self : (path : List (List ℕ)) (vs : List Item) → Unlike (λ (v : Item). v.name) vs → is_none (items_lines path vs vs) ≡ true
items_self path vs apart =
    let there = each_has (λ (v : Item). v.name) (has (item_names vs)) vs (has_self (item_names vs)) in
    none_three (flat_map (paired_items path vs) vs) (lone_items First path vs (item_names vs)) (lone_items Second path vs (item_names vs))
    (none_each (paired_items path vs) vs
    (each_more (λ v. item_named vs v.name ≡ Some v) (λ v. is_none (paired_items path vs v) ≡ true) vs
    (λ v found. ap (λ (o : Option Item). is_none (option_map_or (item_lines path v) o [])) found ∙ item_self path v)
    (own_named (λ (v : Item). v.name) vs apart)))
    (none_each (lone_item First path (item_names vs)) vs
    (each_more (λ v. has (item_names vs) v.name ≡ true) (λ v. is_none (lone_item First path (item_names vs) v) ≡ true) vs
    (lone_item_self First path (item_names vs)) there))
    (none_each (lone_item Second path (item_names vs)) vs
    (each_more (λ v. has (item_names vs) v.name ≡ true) (λ v. is_none (lone_item Second path (item_names vs) v) ≡ true) vs
    (lone_item_self Second path (item_names vs)) there))

-- ---- their children

lone_key_self : (side : Side) (path others : List (List ℕ)) (t : Tree) → has others (head t).name ≡ true
    → is_none (lone_key side path others t) ≡ true
lone_key_self side path others t there =
    ap (λ (b : Bool). is_none (cond (not b) (KeyOnly side (capped (key_count t)) (path ++ (head t).name ∷ []) ∷ []) [])) there

lone_keys_self : (side : Side) (path : List (List ℕ)) (ts : List Tree) → is_none (lone_keys side path ts (key_names ts)) ≡ true
lone_keys_self side path ts =
    none_each (lone_key side path (key_names ts)) ts
    (each_more (λ t. has (key_names ts) (head t).name ≡ true) (λ t. is_none (lone_key side path (key_names ts) t) ≡ true) ts
    (lone_key_self side path (key_names ts))
    (each_has (λ t. (head t).name) (has (key_names ts)) ts (has_self (key_names ts))))

own_self : (top : Bool) (path : List (List ℕ)) (h : Head) (ts : List Tree) → Unlike (λ (v : Item). v.name) h.values
    → is_none (own_lines top path h ts h ts) ≡ true
own_self top path h ts apart =
    let vs : List (List ℕ) = item_names h.values in
    none_both (heads_lines top path h h) (content_lines path h.values h.values ts ts) (heads_self top path h)
    (none_both (orders_lines path vs vs (key_names ts) (key_names ts)) (items_lines path h.values h.values)
    (none_both (order_lines Values path vs vs) (order_lines Keys path (key_names ts) (key_names ts)) (order_self Values path vs)
    (order_self Keys path (key_names ts))) (items_self path h.values apart))

-- each child is the one of its name
children_found : (h : Head) (ts : Trees) → IsKey h (listed ts) → Each (λ t. tree_named (listed ts) (head t).name ≡ Some t) (listed ts)
children_found h ts is =
    own_named (λ t. (head t).name) (listed ts) (unlike_from (λ t. (head t).name) (listed ts) is.keys_differ)

-- ---- the walk

mutual
  key_self : (top : Bool) (path : List (List ℕ)) (t : Tree) → HoldsKeys t → is_none (key_lines top path t t) ≡ true
  key_self top path (key h ts) holds =
      none_three (own_lines top path h (listed ts) h (listed ts)) (keys_lines path (listed ts) ts) (both_lone_keys path (listed ts) (listed ts))
      (own_self top path h (listed ts) (unlike_from (λ (v : Item). v.name) h.values holds.0.items_differ))
      (keys_self path (listed ts) ts (children_found h ts holds.0) holds.1)
      (none_both (lone_keys First path (listed ts) (key_names (listed ts))) (lone_keys Second path (listed ts) (key_names (listed ts)))
      (lone_keys_self First path (listed ts)) (lone_keys_self Second path (listed ts)))

  keys_self : (path : List (List ℕ)) (others : List Tree) (ts : Trees) → Each (λ t. tree_named others (head t).name ≡ Some t) (listed ts)
      → AllHoldKeys ts → is_none (keys_lines path others ts) ≡ true
  keys_self path others none found holds = refl
  keys_self path others (more t ts) found holds =
      none_both (option_map_or (key_lines false (path ++ (head t).name ∷ []) t) (tree_named others (head t).name) []) (keys_lines path others ts)
      (ap (λ (o : Option Tree). is_none (option_map_or (key_lines false (path ++ (head t).name ∷ []) t) o [])) found.0
      ∙ key_self false (path ++ (head t).name ∷ []) t holds.0)
      (keys_self path others ts found.1 holds.1)

-- ---- what is counted

-- neither stamps nor flags differ
abbrev is_off : Marks → Bool
is_off m = not m.stamp && not m.flags

all_append : {X : Type 0} (p : X → Bool) (xs ys : List X) → list_all p xs ≡ true → list_all p ys ≡ true → list_all p (xs ++ ys) ≡ true
all_append p [] ys e f = f
all_append p (x ∷ xs) ys e f =
    let both = and_parts (p x) (list_all p xs) e in and_of (p x) (list_all p (xs ++ ys)) both.0 (all_append p xs ys both.1 f)

marks_self : (h : Head) → is_off (marks_of h h) ≡ true
marks_self h =
    and_of (not (not (nat_eq h.stamp h.stamp))) (not (not (nat_eq h.flags h.flags)))
    (ap (λ b. not (not b)) (eq-eqb h.stamp h.stamp refl)) (ap (λ b. not (not b)) (eq-eqb h.flags h.flags refl))

mutual
  key_marks_self : (t : Tree) → HoldsKeys t → list_all is_off (key_marks t t) ≡ true
  key_marks_self (key h ts) holds =
      and_of (is_off (marks_of h h)) (list_all is_off (keys_marks (listed ts) ts)) (marks_self h)
      (keys_marks_self (listed ts) ts (children_found h ts holds.0) holds.1)

  keys_marks_self : (others : List Tree) (ts : Trees) → Each (λ t. tree_named others (head t).name ≡ Some t) (listed ts)
      → AllHoldKeys ts → list_all is_off (keys_marks others ts) ≡ true
  keys_marks_self others none found holds = refl
  keys_marks_self others (more t ts) found holds =
      all_append is_off (option_map_or (key_marks t) (tree_named others (head t).name) []) (keys_marks others ts)
      (ap (λ (o : Option Tree). list_all is_off (option_map_or (key_marks t) o [])) found.0 ∙ key_marks_self t holds.0)
      (keys_marks_self others ts found.1 holds.1)

not_off : (b : Bool) → not b ≡ true → b ≡ false
not_off true e = sym e
not_off false e = refl

plus_none : (n : ℕ) → n + 0 ≡ n
plus_none n = omega arith

-- a test that none passes counts nothing
count_stays : (p : Marks → Bool) (n : ℕ) (ms : List Marks) → list_all (λ m. not (p m)) ms ≡ true
    → fold (λ (k : ℕ) (m : Marks). k + cond (p m) 1 0) n ms ≡ n
count_stays p n [] all = refl
count_stays p n (m ∷ ms) all =
    let both = and_parts (not (p m)) (list_all (λ m. not (p m)) ms) all in
    count_stays p (n + cond (p m) 1 0) ms both.1 ∙ ap (λ (b : Bool). n + cond b 1 0) (not_off (p m) both.0) ∙ plus_none n

stamps_off : (ms : List Marks) → list_all is_off ms ≡ true → list_all (λ m. not m.stamp) ms ≡ true
stamps_off [] all = refl
stamps_off (m ∷ ms) all =
    let both = and_parts (is_off m) (list_all is_off ms) all in
    and_of (not m.stamp) (list_all (λ m. not m.stamp) ms) (and_parts (not m.stamp) (not m.flags) both.0).0 (stamps_off ms both.1)

flags_off : (ms : List Marks) → list_all is_off ms ≡ true → list_all (λ m. not m.flags) ms ≡ true
flags_off [] all = refl
flags_off (m ∷ ms) all =
    let both = and_parts (is_off m) (list_all is_off ms) all in
    and_of (not m.flags) (list_all (λ m. not m.flags) ms) (and_parts (not m.stamp) (not m.flags) both.0).1 (flags_off ms both.1)

no_stamps : (ms : List Marks) → list_all is_off ms ≡ true → count_by (λ m. m.stamp) ms ≡ 0
no_stamps ms all = count_stays (λ m. m.stamp) 0 ms (stamps_off ms all)

no_flags : (ms : List Marks) → list_all is_off ms ≡ true → count_by (λ m. m.flags) ms ≡ 0
no_flags ms all = count_stays (λ m. m.flags) 0 ms (flags_off ms all)

pub own_tree : OwnTree
unfolding trees_lines
own_tree set holds =
    let ms : List Marks = key_marks set set in
    let all = key_marks_self set holds in
    nil_of (key_lines true [] set set ++ marks_lines ms)
    (none_both (key_lines true [] set set) (marks_lines ms) (key_self true [] set holds)
    (λ i. is_none (stamps_lines (no_stamps ms all i) ++ flags_lines (no_flags ms all i))))

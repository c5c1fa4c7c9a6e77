-- What a step on the sets or on `Select` leaves, and what steps in order leave.
use Rattle.std.proofs.Common.{◌≡◌, ℕ, ◌+◌, ◌<◌, ◌≤◌, ◌^◌, Bool, true, false, not, ◌||◌, ◌==◌, cond, ltb, length, List, [], ◌∷◌, ◌++◌, Option, Some, None, Result, Ok, Err, refl, sym, ap, ◌∙◌}
use Rattle.std.specs.Prelude.{codes, find, option_and_then, unwrap_or}
use Rattle.std.specs.Option.{is_some, is_none, option_map, option_map_or}
use Rattle.std.specs.Int.{w32, to_le_bytes, from_le_bytes}
use Rattle.std.proofs.lemmas.Bool.{false≢true}
use Rattle.std.proofs.lemmas.Nat.{from_le_bytes-to_le_bytes_4}
use Rattle.nt_bytes.specs.Folding.{folds_same}
use Rattle.nt_bytes.specs.declared.version.HiveVersion.{HiveVersion}
use Rattle.nt_bytes.specs.Reading.{◌>>=◌}
use Rattle.hive_model.specs.Tree.{Item, Tree, key, trees, listed, head, children, is_named, is_item, find_key, dword_in}
use Rattle.hive_model.specs.Size.{bulk_of}
use Rattle.hive_model.specs.Valid.{levels}
use Rattle.hive_model.specs.Edit.{Step, set_value, delete_key, copy_child, add_child, Refusal, no_key, exists, name_too_long, too_deep, data_too_long, full, has_child, most_bulk, unless, at_first, without_first, of_items, of_children, at_key, with_item, placed, renamed, with_child, name_tests, after_step, after_steps, edited}
use Rattle.start_model.specs.Sets.{set_name, set_of, select_number, stepped}
use Rattle.start_laws.proofs.NameLemmas.{apart, other_number, select_is_no_set, no_set_is_select, folds_itself}
use Rattle.start_laws.proofs.FindLemmas.{find-at_first_other, find-at_first, find-without_first, find-placed_other, find-placed, find-push_other, find-push}

-- ---- results

pub ok_is : (a b : Tree) → ◌≡◌ {A = Result Tree Refusal} (Ok a) (Ok b) → a ≡ b
ok_is a b e = cc

-- where no test refused, the tree is the one that was to be made
pub unless_ok : (tests : List (Bool × Refusal)) (x u : Tree) → unless tests x ≡ Ok u → x ≡ u
unless_ok [] x u e = ok_is x u e
unless_ok (test ∷ tests) x u e = split test.0 e (unless_ok tests x u)
  where
    split : (b : Bool) → cond b (Err test.1) (unless tests x) ≡ Ok u → (unless tests x ≡ Ok u → x ≡ u) → x ≡ u
    split true is deep = absurd cc
    split false is deep = deep is

pub first_test : (b : Bool) (why : Refusal) (r : Result Tree Refusal) (u : Tree) → cond b (Err why) r ≡ Ok u → b ≡ false
first_test true why r u e = absurd cc
first_test false why r u e = refl

-- ---- what is below the root

unfoldable pub select_key : Tree → Option Tree
select_key t = find_key (codes "Select" ∷ []) t

pub some_key : (o : Option Tree) → option_and_then (find_key []) o ≡ o
some_key None = refl
some_key (Some t) = refl

-- a set, and Select, is the first child of that name
pub set_found : (t : Tree) (n : ℕ) → set_of t n ≡ find (is_named (set_name n)) (children t)
set_found t n = some_key (find (is_named (set_name n)) (children t))

pub select_found : (t : Tree) → select_key t ≡ find (is_named (codes "Select")) (children t)
unfolding select_key
select_found t = some_key (find (is_named (codes "Select")) (children t))

listed_trees : (ts : List Tree) → listed (trees ts) ≡ ts
listed_trees [] = refl
listed_trees (t ∷ ts) = ap (λ us. t ∷ us) (listed_trees ts)

pub children-of_children : (change : List Tree → List Tree) (t : Tree)
    → children (of_children change t) ≡ change (children t)
children-of_children change (key h ts) = listed_trees (change (listed ts))

-- a change of the children that finds the same child of a name leaves that set, and so Select
set_kept : (change : List Tree → List Tree) (t : Tree) (n : ℕ)
    → find (is_named (set_name n)) (change (children t)) ≡ find (is_named (set_name n)) (children t)
    → set_of (of_children change t) n ≡ set_of t n
set_kept change t n e = set_found (of_children change t) n
    ∙ ap (find (is_named (set_name n))) (children-of_children change t) ∙ e ∙ sym (set_found t n)

select_kept : (change : List Tree → List Tree) (t : Tree)
    → find (is_named (codes "Select")) (change (children t)) ≡ find (is_named (codes "Select")) (children t)
    → select_key (of_children change t) ≡ select_key t
select_kept change t e = select_found (of_children change t)
    ∙ ap (find (is_named (codes "Select"))) (children-of_children change t) ∙ e ∙ sym (select_found t)

-- a tree has the sets of another, but for one, and its Select
pub record KeepsOthers (t u : Tree) (number : ℕ) : Type 0 where
  pub sets : (n : ℕ) → n ≤ 999 → (n ≡ number → ⊥) → set_of u n ≡ set_of t n
  pub select : select_key u ≡ select_key t

-- ---- a set goes

unfoldable pub without_set : ℕ → Tree → Tree
without_set r t = of_children (without_first (is_named (set_name r))) t

-- the tree without a set has all other sets, and Select
pub without_set-keeps : (r : ℕ) (t : Tree) → r ≤ 999 → KeepsOthers t (without_set r t) r
unfolding without_set
without_set-keeps r t h = record {
  sets = λ n le ne. set_kept (without_first (is_named (set_name r))) t n
      (find-without_first (is_named (set_name n)) (is_named (set_name r))
      (λ x is. apart (set_name n) (set_name r) (head x).name (other_number n r le h ne) is) (children t));
  select = select_kept (without_first (is_named (set_name r))) t
      (find-without_first (is_named (codes "Select")) (is_named (set_name r))
      (λ x is. apart (codes "Select") (set_name r) (head x).name (select_is_no_set r) is) (children t));
}

-- a deletion that was not refused made that tree; so below of a copy, an addition and a write
pub deleted-is : (r : ℕ) (t u : Tree) → after_step (delete_key (set_name r ∷ [])) t ≡ Ok u → without_set r t ≡ u
unfolding without_set
deleted-is r t u e = unless_ok
    (((length (set_name r ∷ []) == 0) || is_none (find_key (set_name r ∷ []) t), no_key) ∷ [])
    (of_children (without_first (is_named (set_name r))) t) u e

-- ---- a set comes

pub name_of-renamed : (name : List ℕ) (k : Tree) → (head (renamed name k)).name ≡ name
name_of-renamed name (key h ts) = refl

named_so : (name : List ℕ) (k : Tree) → is_named name (renamed name k) ≡ true
named_so name k = ap (folds_same name) (name_of-renamed name k) ∙ folds_itself name

-- a child that comes under a set's name leaves all other sets, and Select
pub with_child-keeps : (r : ℕ) (k t : Tree) → r ≤ 999 → KeepsOthers t (with_child (set_name r) k t) r
with_child-keeps r k t h =
    let new : Tree = renamed (set_name r) k in
    record {
      sets = λ n le ne. set_kept (placed new) t n
          (find-placed_other (is_named (set_name n)) new
          (ap (folds_same (set_name n)) (name_of-renamed (set_name r) k) ∙ other_number n r le h ne) (children t));
      select = select_kept (placed new) t
          (find-placed_other (is_named (codes "Select")) new
          (ap (folds_same (codes "Select")) (name_of-renamed (set_name r) k) ∙ select_is_no_set r) (children t));
    }

-- and stands there, where no set stood
pub with_child-adds : (r : ℕ) (k t : Tree) → set_of t r ≡ None
    → set_of (with_child (set_name r) k t) r ≡ Some (renamed (set_name r) k)
with_child-adds r k t e =
    let new : Tree = renamed (set_name r) k in
    set_found (with_child (set_name r) k t) r ∙ ap (find (is_named (set_name r))) (children-of_children (placed new) t)
    ∙ find-placed (is_named (set_name r)) new (named_so (set_name r) k) (children t) (sym (set_found t r) ∙ e)

pub copied-is : (n r : ℕ) (k t u : Tree) → set_of t n ≡ Some k
    → after_step (copy_child (set_name n) (set_name r)) t ≡ Ok u → with_child (set_name r) k t ≡ u
copied-is n r k t u is e =
    let there : find (is_named (set_name n)) (children t) ≡ Some k = sym (set_found t n) ∙ is in
    let made : with_child (set_name r) k t
    ≡ option_map_or (λ k. with_child (set_name r) k t) (find (is_named (set_name n)) (children t)) t =
    ap (λ o. option_map_or (λ k. with_child (set_name r) k t) o t) (sym there) in
    made ∙ unless_ok (((not (has_child (set_name n) t), no_key) ∷ name_tests (set_name r))
    ++ (has_child (set_name r) t, exists) ∷ [])
    (option_map_or (λ k. with_child (set_name r) k t) (find (is_named (set_name n)) (children t)) t) u e

pub added-is : (r : ℕ) (k t u : Tree) → after_step (add_child (set_name r) k) t ≡ Ok u → with_child (set_name r) k t ≡ u
added-is r k t u e = unless_ok
    (name_tests (set_name r) ++ (has_child (set_name r) t, exists) ∷ (ltb 512 (levels k + 1), too_deep) ∷ [])
    (with_child (set_name r) k t) u e

-- ---- a number is written

pub name_of-of_items : (change : List Item → List Item) (t : Tree) → (head (of_items change t)).name ≡ (head t).name
name_of-of_items change (key h ts) = refl

-- the tree with a number of Select written, as four bytes
unfoldable pub with_value : List ℕ → ℕ → Tree → Tree
with_value name number t =
    of_children (at_first (is_named (codes "Select")) (of_items (with_item name 4 (to_le_bytes w32 number)))) t

with_value-sets : (name : List ℕ) (number : ℕ) (t : Tree) (n : ℕ) → set_of (with_value name number t) n ≡ set_of t n
unfolding with_value
with_value-sets name number t n =
    let change : Tree → Tree = of_items (with_item name 4 (to_le_bytes w32 number)) in
    let other : (x : Tree) → is_named (codes "Select") x ≡ true → is_named (set_name n) x ≡ false =
    λ x is. apart (set_name n) (codes "Select") (head x).name (no_set_is_select n) is in
    set_kept (at_first (is_named (codes "Select")) change) t n
    (find-at_first_other (is_named (set_name n)) (is_named (codes "Select")) change other
    (λ x is. ap (folds_same (set_name n)) (name_of-of_items (with_item name 4 (to_le_bytes w32 number)) x) ∙ other x is)
    (children t))

-- the values of Select are the old ones with that one set
pub with_value-select : (name : List ℕ) (number : ℕ) (t : Tree)
    → select_key (with_value name number t)
    ≡ option_map (of_items (with_item name 4 (to_le_bytes w32 number))) (select_key t)
unfolding with_value
with_value-select name number t =
    let change : Tree → Tree = of_items (with_item name 4 (to_le_bytes w32 number)) in
    select_found (with_value name number t)
    ∙ ap (find (is_named (codes "Select"))) (children-of_children (at_first (is_named (codes "Select")) change) t)
    ∙ find-at_first (is_named (codes "Select")) change
    (λ x is. ap (folds_same (codes "Select")) (name_of-of_items (with_item name 4 (to_le_bytes w32 number)) x) ∙ is)
    (children t)
    ∙ ap (option_map change) (sym (select_found t))

pub item_other : (m name : List ℕ) (bytes : List ℕ) (items : List Item) → folds_same m name ≡ false
    → find (is_item m) (with_item name 4 bytes items) ≡ find (is_item m) items
item_other m name bytes items h = split (is_some (find (is_item name) items))
  where
    split : (b : Bool) → find (is_item m)
        (cond b (at_first (is_item name) (λ v. record v { kind = 4; bytes = bytes }) items)
        (items ++ record { name = name; kind = 4; bytes = bytes } ∷ [])) ≡ find (is_item m) items
    split true =
        find-at_first_other (is_item m) (is_item name) (λ (v : Item). record v { kind = 4; bytes = bytes })
        (λ x is. apart m name x.name h is) (λ x is. apart m name x.name h is) items
    split false = find-push_other (is_item m) items (record { name = name; kind = 4; bytes = bytes }) h

item_same : (name : List ℕ) (number : ℕ) (items : List Item) → number < 2 ^ 32
    → option_and_then dword_in (find (is_item name) (with_item name 4 (to_le_bytes w32 number) items)) ≡ Some number
item_same name number items fits = split (find (is_item name) items) refl
  where
    bytes : List ℕ
    bytes = to_le_bytes w32 number

    back : Some (from_le_bytes w32 bytes) ≡ Some number
    back = ap (λ n. Some n) (from_le_bytes-to_le_bytes_4 number fits)

    split : (o : Option Item) → find (is_item name) items ≡ o
        → option_and_then dword_in
        (find (is_item name) (cond (is_some o)
        (at_first (is_item name) (λ v. record v { kind = 4; bytes = bytes }) items)
        (items ++ record { name = name; kind = 4; bytes = bytes } ∷ []))) ≡ Some number
    split (Some v) e =
        ap (option_and_then dword_in)
        (find-at_first (is_item name) (λ (w : Item). record w { kind = 4; bytes = bytes }) (λ x is. is) items
        ∙ ap (option_map (λ (w : Item). record w { kind = 4; bytes = bytes })) e) ∙ back
    split None e = ap (option_and_then dword_in)
        (find-push (is_item name) items (record { name = name; kind = 4; bytes = bytes }) (folds_itself name) e) ∙ back

number_other : (m name : List ℕ) (bytes : List ℕ) (o : Option Tree) → folds_same m name ≡ false
    → select_number m (option_map (of_items (with_item name 4 bytes)) o) ≡ select_number m o
number_other m name bytes None h = refl
number_other m name bytes (Some (key g ts)) h =
    ap (λ o. unwrap_or (option_and_then dword_in o) 0) (item_other m name bytes g.values h)

-- a number that fits four bytes is read back as it was written
number_same : (name : List ℕ) (number : ℕ) (o : Option Tree) → is_some o ≡ true → number < 2 ^ 32
    → select_number name (option_map (of_items (with_item name 4 (to_le_bytes w32 number))) o) ≡ number
number_same name number None there fits = absurd (false≢true there)
number_same name number (Some (key g ts)) there fits = ap (λ o. unwrap_or o 0) (item_same name number g.values fits)

-- a tree has the sets of another, and its numbers but for one
pub record Renumbers (t u : Tree) (name : List ℕ) (number : ℕ) : Type 0 where
  pub sets : (n : ℕ) → set_of u n ≡ set_of t n
  pub here : number < 2 ^ 32 → select_number name (select_key u) ≡ number
  pub others : (m : List ℕ) → folds_same m name ≡ false
      → select_number m (select_key u) ≡ select_number m (select_key t)
  pub there : is_some (select_key t) ≡ true → is_some (select_key u) ≡ true

some_mapped : (f : Tree → Tree) (o : Option Tree) → is_some o ≡ true → is_some (option_map f o) ≡ true
some_mapped f None h = h
some_mapped f (Some t) h = refl

-- what writing a number leaves, where Select is there
pub with_value-renumbers : (name : List ℕ) (number : ℕ) (t : Tree) → is_some (select_key t) ≡ true
    → Renumbers t (with_value name number t) name number
with_value-renumbers name number t there = record {
  sets = with_value-sets name number t;
  here = λ fits. ap (select_number name) (with_value-select name number t)
      ∙ number_same name number (select_key t) there fits;
  others = λ m h. ap (select_number m) (with_value-select name number t)
      ∙ number_other m name (to_le_bytes w32 number) (select_key t) h;
  there = λ some. ap is_some (with_value-select name number t) ∙ some_mapped _ (select_key t) some;
}

pub value_set-is : (name : List ℕ) (number : ℕ) (t u : Tree)
    → after_step (set_value (codes "Select" ∷ []) name 4 (to_le_bytes w32 number)) t ≡ Ok u
    → with_value name number t ≡ u
unfolding with_value
value_set-is name number t u e =
    unless_ok ((is_none (find_key (codes "Select" ∷ []) t), no_key) ∷ (ltb 16383 (length name), name_too_long)
    ∷ (ltb 1048576 (length (to_le_bytes w32 number)), data_too_long) ∷ [])
    (at_key (codes "Select" ∷ []) (of_items (with_item name 4 (to_le_bytes w32 number))) t) u e

not_none : (o : Option Tree) → is_none o ≡ false → is_some o ≡ true
not_none None h = absurd (false≢true (sym h))
not_none (Some t) h = refl

-- a number that was written found Select there
pub value_set-there : (name : List ℕ) (number : ℕ) (t u : Tree)
    → after_step (set_value (codes "Select" ∷ []) name 4 (to_le_bytes w32 number)) t ≡ Ok u
    → is_some (select_key t) ≡ true
unfolding select_key
value_set-there name number t u e =
    not_none (find_key (codes "Select" ∷ []) t) (first_test (is_none (find_key (codes "Select" ∷ []) t)) _ _ u e)

-- ---- steps in order

-- steps in order were made over a tree in between
pub record Parted (t u : Tree) (xs ys : List Step) : Type 0 where
  pub middle : Tree
  pub front : after_steps t xs ≡ Ok middle
  pub back : after_steps middle ys ≡ Ok u

pub one_step : (s : Step) (ss : List Step) (t u : Tree) → after_steps t (s ∷ ss) ≡ Ok u → Parted t u (s ∷ []) ss
one_step s ss t u e = split (after_step s t) refl e
  where
    split : (r : Result Tree Refusal) → after_step s t ≡ r → (r >>= λ v. after_steps v ss) ≡ Ok u
        → Parted t u (s ∷ []) ss
    split (Ok v) is rest = record { middle = v; front = ap (λ r. r >>= λ v. Ok v) is; back = rest }
    split (Err why) is rest = absurd cc

pub single : (s : Step) (t u : Tree) → after_steps t (s ∷ []) ≡ Ok u → after_step s t ≡ Ok u
single s t u e = split (after_step s t) refl e
  where
    split : (r : Result Tree Refusal) → after_step s t ≡ r → (r >>= λ v. Ok v) ≡ Ok u → after_step s t ≡ Ok u
    split (Ok v) is same = is ∙ same
    split (Err why) is same = absurd cc

-- steps that were made were made as their front and then their back
pub parted : (xs ys : List Step) (t u : Tree) → after_steps t (xs ++ ys) ≡ Ok u → Parted t u xs ys
parted [] ys t u e = record { middle = t; front = refl; back = e }
parted (x ∷ xs) ys t u e =
    let one = one_step x (xs ++ ys) t u e in
    let deep = parted xs ys one.middle u one.back in
    record {
      middle = deep.middle;
      front = ap (λ r. r >>= λ v. after_steps v xs) (single x t one.middle one.front) ∙ deep.front;
      back =
          deep.back;
    }

too_large_or : (b : Bool) (v u : Tree) → cond b (Err full) (Ok v) ≡ Ok u → v ≡ u
too_large_or true v u e = absurd cc
too_large_or false v u e = ok_is v u e

-- a plan that was not refused made each of its steps
pub steps_made : (version : HiveVersion) (steps : List Step) (t u : Tree) → stepped version t steps ≡ Ok u
    → after_steps t steps ≡ Ok u
unfolding edited
steps_made version [] t u e = e
steps_made version (s ∷ ss) t u e = split (after_steps t (s ∷ ss)) refl e
  where
    split : (r : Result Tree Refusal) → after_steps t (s ∷ ss) ≡ r
        → (r >>= λ v. cond (ltb most_bulk (bulk_of version v)) (Err full) (Ok v)) ≡ Ok u
        → after_steps t (s ∷ ss) ≡ Ok u
    split (Ok v) is same = is ∙ ap (λ v. Ok v) (too_large_or (ltb most_bulk (bulk_of version v)) v u same)
    split (Err why) is same = absurd cc

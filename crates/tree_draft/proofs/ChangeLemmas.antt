-- The edits of a tree are changes of the key that a path leads to, and such a change keeps names.
use Rattle.std.proofs.Common.{◌≡◌, ℕ, ◌+◌, ◌==◌, Bool, true, false, cond, List, [], ◌∷◌, ◌++◌, length, Option, Some, None, Result, Ok, Err, refl, sym, ap, ◌∙◌, arith}
use Rattle.std.specs.Prelude.{find, nat_lt, not, option_and_then}
use Rattle.std.specs.Option.{is_some, is_none, option_map_or}
use Rattle.hive_model.specs.Tree.{Head, Tree, key, trees, listed, head, children, is_named, is_item, find_key, find_item}
use Rattle.hive_model.specs.Valid.{longest_value_name, deepest_level}
use Rattle.hive_model.specs.Edit.{Refusal, no_key, no_value, name_too_long, too_deep, data_too_long, unless, at_first, without_first, of_items, of_children, at_key, with_item, value_set, value_deleted, has_child, name_tests, with_key, key_made, without_key, key_deleted}
use Rattle.reg_tree.proofs.Sound.{key_name}
use Rattle.reg_tree.proofs.Edited.{with_key_name, of_items_name}
use Rattle.tree_draft.specs.Change.{changed_here, then_be, changed_among, changed_at}
use Rattle.tree_draft.specs.declared.change.Change.{Change}
use Rattle.tree_draft.specs.declared.change.Change.TheVariants.{PutValue, DropValue, PutKey, DropKey}

-- ---- a change of the key that a path leads to, refused by tests of that key

-- to change the first that passes is to put in its place what the change makes of it
first_changed : {X : Type 0} (p : X → Bool) (change : X → X) (xs : List X) (x : X) → find p xs ≡ Some x
    → at_first p (λ _. change x) xs ≡ at_first p change xs
first_changed p change [] x e = refl
first_changed p change (y ∷ xs) x e = go (p y) (first_changed p change xs x) e
  where
    go : (b : Bool) → (find p xs ≡ Some x → at_first p (λ _. change x) xs ≡ at_first p change xs)
        → cond b (Some y) (find p xs) ≡ Some x
        → cond b (change x ∷ xs) (y ∷ at_first p (λ _. change x) xs)
        ≡ cond b (change y ∷ xs) (y ∷ at_first p change xs)
    go true more e = let same : x ≡ y = cc in rw same refl
    go false more e = rw (more e) refl

-- what is made of a result is refused by the same tests
then_unless : {A B : Type 0} (f : A → B) (tests : List (Bool × Refusal)) (x : A)
    → then_be f (unless tests x) ≡ unless tests (f x)
then_unless f [] x = refl
then_unless f (test ∷ tests) x =
    elim test.0
    as (λ b. then_be f (cond b (Err test.1) (unless tests x)) ≡ cond b (Err test.1) (unless tests (f x)))
    [ true ↦ refl | false ↦ then_unless f tests x ]

-- this tree, unless the path led to no key or a test of the key that it led to holds
abbrev outcome : (Tree → List (Bool × Refusal)) → Tree → Option Tree → Result Tree Refusal
outcome tests t o = option_map_or (λ k. unless (tests k) t) o (Err no_key)

-- a child that was changed, put back among its siblings
child_back : (h : Head) (ts : List Tree) (name : List ℕ) (tests : Tree → List (Bool × Refusal))
    (change : Tree → Tree) (c : Tree) (o : Option Tree) → find (is_named name) ts ≡ Some c
    → then_be (λ us. key h (trees us))
    (then_be (λ u. at_first (is_named name) (λ _. u) ts) (outcome tests (change c) o))
    ≡ outcome tests (key h (trees (at_first (is_named name) change ts))) o
child_back h ts name tests change c None e = refl
child_back h ts name tests change c (Some k) e =
    let siblings : Tree → List Tree = λ u. at_first (is_named name) (λ _. u) ts in
    let parent : List Tree → Tree = λ us. key h (trees us) in
    rw (
      then_unless siblings (tests k) (change c),
      then_unless parent (tests k) (siblings (change c)),
      first_changed (is_named name) change ts c e,
    ) refl

-- the key at the path is changed, unless there is none or a test of it holds
changed_by : (path : List (List ℕ)) (tests : Tree → List (Bool × Refusal)) (change : Tree → Tree) (t : Tree)
    → changed_at path (λ u. unless (tests u) (change u)) t
    ≡ outcome tests (at_key path change t) (find_key path t)
changed_by [] tests change t = refl
changed_by (name ∷ path) tests change (key h ts) =
    child (changed_by path tests change) (find (is_named name) (listed ts)) refl
  where
    child : ((c : Tree) → changed_at path (λ u. unless (tests u) (change u)) c
        ≡ outcome tests (at_key path change c) (find_key path c))
        → (o : Option Tree) → find (is_named name) (listed ts) ≡ o
        → then_be (λ us. key h (trees us)) (option_map_or
        (λ c. then_be (λ u. at_first (is_named name) (λ _. u) (listed ts))
        (changed_at path (λ u. unless (tests u) (change u)) c)) o (Err no_key))
        ≡ outcome tests (at_key (name ∷ path) change (key h ts)) (option_and_then (find_key path) o)
    child below None e = refl
    child below (Some c) e =
        rw (below c) (child_back h (listed ts) name tests (at_key path change) c (find_key path c) e)

-- ---- the edits of a value and of a new key

-- what a value that is set is judged by
abbrev value_tests : List ℕ → List ℕ → List (Bool × Refusal)
value_tests name bytes =
    (nat_lt longest_value_name (length name), name_too_long)
    ∷ (nat_lt 1048576 (length bytes), data_too_long)
    ∷ []

-- tests of which only the first, whether the key is there, asks something of the key
found_first : (o : Option Tree) (tests : List (Bool × Refusal)) (t : Tree)
    → unless ((is_none o, no_key) ∷ tests) t ≡ outcome (λ _. tests) t o
found_first None tests t = refl
found_first (Some k) tests t = refl

pub set_at : (path : List (List ℕ)) (name : List ℕ) (kind : ℕ) (bytes : List ℕ) (t : Tree)
    → value_set path name kind bytes t ≡ changed_at path (changed_here (PutValue name kind bytes)) t
set_at path name kind bytes t =
    let tests : List (Bool × Refusal) = value_tests name bytes in
    let change : Tree → Tree = of_items (with_item name kind bytes) in
    found_first (find_key path t) tests (at_key path change t) ∙ sym (changed_by path (λ _. tests) change t)

pub deleted_at : (path : List (List ℕ)) (name : List ℕ) (t : Tree)
    → value_deleted path name t ≡ changed_at path (changed_here (DropValue name)) t
deleted_at path name t =
    let tests : Tree → List (Bool × Refusal) = λ k. (not (is_some (find_item name k)), no_value) ∷ [] in
    let change : Tree → Tree = of_items (without_first (is_item name)) in
    (elim (find_key path t)
    as (λ o. unless ((is_none o, no_key)
    ∷ (not (option_map_or (λ k. is_some (find_item name k)) o false), no_value)
    ∷ []) (at_key path change t) ≡ outcome tests (at_key path change t) o)
    [ None ↦ refl | Some k ↦ refl ])
    ∙ sym (changed_by path tests change t)

pub made_at : (parent : List (List ℕ)) (name : List ℕ) (deep : Bool) (t : Tree)
    → deep ≡ nat_lt deepest_level (length parent + 2)
    → key_made parent name t ≡ changed_at parent (changed_here (PutKey name deep)) t
made_at parent name deep t e =
    let tests : List (Bool × Refusal) = name_tests name ++ (deep, too_deep) ∷ [] in
    rw (sym e) (found_first (find_key parent t) tests (at_key parent (with_key name) t)
    ∙ sym (changed_by parent (λ _. tests) (with_key name) t))

-- ---- a key removed from the children of its parent

-- the path to a child leads nowhere where the parent is not there or does not have that child
none_below : (parent : List (List ℕ)) (name : List ℕ) (t : Tree)
    → is_none (find_key (parent ++ name ∷ []) t)
    ≡ option_map_or (λ k. not (has_child name k)) (find_key parent t) true
none_below [] name t =
    elim (find (is_named name) (children t))
    as (λ o. is_none (option_and_then (find_key []) o) ≡ not (is_some o))
    [ None ↦ refl | Some k ↦ refl ]
none_below (next ∷ parent) name t =
    elim (find (is_named next) (children t))
    as (λ o. is_none (option_and_then (find_key (parent ++ name ∷ [])) o)
    ≡ option_map_or (λ k. not (has_child name k)) (option_and_then (find_key parent) o) true)
    [ None ↦ refl | Some k ↦ none_below parent name k ]

-- to remove the key at a path is to take that child from its parent
without_child : (parent : List (List ℕ)) (name : List ℕ) (t : Tree)
    → without_key (parent ++ name ∷ []) t ≡ at_key parent (of_children (without_first (is_named name))) t
without_child [] name t = refl
without_child (next ∷ []) name t = refl
without_child (next ∷ after ∷ parent) name t =
    λ j. of_children (at_first (is_named next) (λ u. without_child (after ∷ parent) name u j)) t

-- the path to a child is not empty
some_name : (parent : List (List ℕ)) (name : List ℕ) → (length (parent ++ name ∷ []) == 0) ≡ false
some_name [] name = refl
some_name (next ∷ parent) name = grind arith

pub gone_at : (parent : List (List ℕ)) (name : List ℕ) (t : Tree)
    → key_deleted (parent ++ name ∷ []) t ≡ changed_at parent (changed_here (DropKey name)) t
gone_at parent name t =
    let tests : Tree → List (Bool × Refusal) = λ k. (not (has_child name k), no_key) ∷ [] in
    let change : Tree → Tree = of_children (without_first (is_named name)) in
    rw (some_name parent name, none_below parent name t, without_child parent name t)
    ((elim (find_key parent t)
    as (λ o. unless ((option_map_or (λ k. not (has_child name k)) o true, no_key) ∷ [])
    (at_key parent change t) ≡ outcome tests (at_key parent change t) o)
    [ None ↦ refl | Some k ↦ refl ])
    ∙ sym (changed_by parent tests change t))

-- ---- names

-- what was not refused has the name that it would have without the tests
named_as_made : (tests : List (Bool × Refusal)) (made t u : Tree) → key_name made ≡ key_name t
    → unless tests made ≡ Ok u → key_name u ≡ key_name t
named_as_made [] made t u n e = let same : made ≡ u = cc in rw (sym same) n
named_as_made (test ∷ tests) made t u n e = go test.0 (named_as_made tests made t u n) e
  where
    go : (b : Bool) → (unless tests made ≡ Ok u → key_name u ≡ key_name t)
        → cond b (Err test.1) (unless tests made) ≡ Ok u → key_name u ≡ key_name t
    go true more e = absurd cc
    go false more e = more e

-- a change keeps the name of a key
pub name_kept_here : (c : Change) (t u : Tree) → changed_here c t ≡ Ok u → (head u).name ≡ (head t).name
name_kept_here (PutValue name kind bytes) t u e = named_as_made (value_tests name bytes)
    (of_items (with_item name kind bytes) t) t u (of_items_name (with_item name kind bytes) t) e
name_kept_here (DropValue name) t u e = named_as_made ((not (is_some (find_item name t)), no_value) ∷ [])
    (of_items (without_first (is_item name)) t) t u (of_items_name (without_first (is_item name)) t) e
name_kept_here (PutKey name deep) t u e = named_as_made (name_tests name ++ (deep, too_deep) ∷ [])
    (with_key name t) t u (with_key_name name t) e
name_kept_here (DropKey name) (key h ts) u e = named_as_made ((not (has_child name (key h ts)), no_key) ∷ [])
    (of_children (without_first (is_named name)) (key h ts)) (key h ts) u refl e

-- and so does a change of a key below it
pub name_kept_at : (path : List (List ℕ)) (c : Change) (t u : Tree)
    → changed_at path (changed_here c) t ≡ Ok u → (head u).name ≡ (head t).name
name_kept_at [] c t u e = name_kept_here c t u e
name_kept_at (name ∷ path) c (key h ts) u e =
    kept (changed_among name (changed_at path (changed_here c)) (listed ts)) e
  where
    kept : (r : Result (List Tree) Refusal) → then_be (λ us. key h (trees us)) r ≡ Ok u → key_name u ≡ h.name
    kept (Ok us) e = let made : key h (trees us) ≡ u = cc in sym (ap key_name made)
    kept (Err why) e = absurd cc

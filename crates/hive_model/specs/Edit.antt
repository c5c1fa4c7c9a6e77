-- What edits make of a tree, and why they are refused (the calls on keys and values: Windows Internals 4th edition, the
-- registry; the order of the refusals, the limits and the places of new keys and values are this project's own).
use Rattle.std.specs.Prelude.{ℕ, ◌+◌, ◌==◌, Bool, false, ◌||◌, not, nat_lt, if◌then◌else◌, List, [], ◌∷◌, ◌++◌, length, find, Result, Ok, Err}
use Rattle.std.specs.List.{list_any}
use Rattle.std.specs.Option.{is_some, is_none, option_map_or}
use Rattle.std.specs.Ordering.{is_gt}
use Rattle.nt_bytes.specs.Folding.{folded_order}
use Rattle.nt_bytes.specs.declared.version.HiveVersion.{HiveVersion}
use Rattle.hive_model.specs.Tree.{Item, Tree, key, none, trees, listed, head, children, is_named, is_item, find_key, find_item}
use Rattle.hive_model.specs.Valid.{longest_key_name, longest_value_name, deepest_level, levels, longest_data}
use Rattle.nt_bytes.specs.Text.{is_backslash}
use Rattle.nt_bytes.specs.Reading.{◌>>=◌}
use Rattle.hive_model.specs.Size.{bulk_of}

-- one edit: of a value of the key at a path, of a key at a path, or of a child of the root
pub data Step : Type 0 where
  set_value : (path : List (List ℕ)) → (name : List ℕ) → (kind : ℕ) → (bytes : List ℕ) → Step
  delete_value : (path : List (List ℕ)) → (name : List ℕ) → Step
  make_key : (parent : List (List ℕ)) → (name : List ℕ) → Step
  delete_key : (path : List (List ℕ)) → Step
  copy_child : (from : List ℕ) → (to : List ℕ) → Step
  add_child : (name : List ℕ) → (tree : Tree) → Step

-- why an edit is refused
pub data Refusal : Type 0 where
  no_key : Refusal
  no_value : Refusal
  bad_name : Refusal
  exists : Refusal
  name_too_long : Refusal
  too_deep : Refusal
  data_too_long : Refusal
  full : Refusal

-- the result, unless one of the tests holds: then the refusal of the first that does
abbrev pub unless : {A : Type 0} → List (Bool × Refusal) → A → Result A Refusal
unless [] x = Ok x
unless (test ∷ tests) x = if test.0 then Err test.1 else unless tests x

-- ---- lists and keys with one thing changed

-- with the first item that passes changed
abbrev pub at_first : {X : Type 0} → (X → Bool) → (X → X) → List X → List X
at_first p change [] = []
at_first p change (x ∷ xs) = if p x then change x ∷ xs else x ∷ at_first p change xs

-- without the first item that passes
abbrev pub without_first : {X : Type 0} → (X → Bool) → List X → List X
without_first p [] = []
without_first p (x ∷ xs) = if p x then xs else x ∷ without_first p xs

-- the key with its values changed
abbrev pub of_items : (List Item → List Item) → Tree → Tree
of_items change (key h ts) = key (record h { values = change h.values }) ts

-- the key with its children changed
abbrev pub of_children : (List Tree → List Tree) → Tree → Tree
of_children change (key h ts) = key h (trees (change (listed ts)))

-- the tree with the key changed that the path leads to
abbrev pub at_key : List (List ℕ) → (Tree → Tree) → Tree → Tree
at_key [] change t = change t
at_key (name ∷ path) change t = of_children (at_first (is_named name) (at_key path change)) t

-- ---- values

-- the value of this name has this type and these data, its name as it stood; where there is none it is added as the last
abbrev pub with_item : List ℕ → ℕ → List ℕ → List Item → List Item
with_item name kind bytes items =
    if is_some (find (is_item name) items) then at_first (is_item name) (λ v. record v { kind = kind; bytes = bytes }) items
    else items ++ record { name = name; kind = kind; bytes = bytes } ∷ []

-- the key at the path has a value; a name has at most 16,383 units and data at most 1,048,576 bytes
abbrev pub value_set : List (List ℕ) → List ℕ → ℕ → List ℕ → Tree → Result Tree Refusal
value_set path name kind bytes t = unless
    ((is_none (find_key path t), no_key)
    ∷ (nat_lt longest_value_name (length name), name_too_long)
    ∷ (nat_lt longest_data (length bytes), data_too_long)
    ∷ [])
    (at_key path (of_items (with_item name kind bytes)) t)

-- the key that the path leads to has a value of this name
abbrev pub has_item : List (List ℕ) → List ℕ → Tree → Bool
has_item path name t = option_map_or (λ k. is_some (find_item name k)) (find_key path t) false

-- the key at the path loses a value
abbrev pub value_deleted : List (List ℕ) → List ℕ → Tree → Result Tree Refusal
value_deleted path name t = unless
    ((is_none (find_key path t), no_key)
    ∷ (not (has_item path name t), no_value)
    ∷ [])
    (at_key path (of_items (without_first (is_item name))) t)

-- ---- keys

-- a key has a child of this name
abbrev pub has_child : List ℕ → Tree → Bool
has_child name t = is_some (find (is_named name) (children t))

-- among siblings a new key stands before the first whose name folds greater, else last
abbrev pub placed : Tree → List Tree → List Tree
placed t [] = t ∷ []
placed t (u ∷ us) = if is_gt (folded_order (head u).name (head t).name) then t ∷ u ∷ us else u ∷ placed t us

-- a key's new name may not be empty or have a backslash
abbrev pub is_bad_name : List ℕ → Bool
is_bad_name name = (length name == 0) || list_any is_backslash name

-- what a new name of a key is judged by: it is good, and has at most 255 units
abbrev pub name_tests : List ℕ → List (Bool × Refusal)
name_tests name =
    (is_bad_name name, bad_name)
    ∷ (nat_lt longest_key_name (length name), name_too_long)
    ∷ []

-- a new key has its parent's stamp and descriptor, and nothing else
abbrev pub new_key : List ℕ → Tree → Tree
new_key name parent = key (record { name = name; flags = 0; stamp = (head parent).stamp; class = []; security = (head parent).security; values = [] }) none

-- the key has a child of this name, the one that is there or a new one
abbrev pub with_key : List ℕ → Tree → Tree
with_key name t = if has_child name t then t else of_children (placed (new_key name t)) t

-- the key at the path has a child of this name, at most at level 512; the root's level is 1
abbrev pub key_made : List (List ℕ) → List ℕ → Tree → Result Tree Refusal
key_made parent name t = unless
    ((is_none (find_key parent t), no_key)
    ∷ name_tests name
    ++ (nat_lt deepest_level (length parent + 2), too_deep)
    ∷ [])
    (at_key parent (with_key name) t)

-- the tree without the key that the path leads to, and without all below it
abbrev pub without_key : List (List ℕ) → Tree → Tree
without_key [] t = t
without_key (name ∷ []) t = of_children (without_first (is_named name)) t
without_key (name ∷ next ∷ path) t = of_children (at_first (is_named name) (without_key (next ∷ path))) t

-- the key at the path goes, but never the root
abbrev pub key_deleted : List (List ℕ) → Tree → Result Tree Refusal
key_deleted path t = unless
    (((length path == 0) || is_none (find_key path t), no_key)
    ∷ [])
    (without_key path t)

-- the key under another name
abbrev pub renamed : List ℕ → Tree → Tree
renamed name (key h ts) = key (record h { name = name }) ts

-- the root has one more child: this key under this name
abbrev pub with_child : List ℕ → Tree → Tree → Tree
with_child name k t = of_children (placed (renamed name k)) t

-- a child of the root stands there under another name too
abbrev pub child_copied : List ℕ → List ℕ → Tree → Result Tree Refusal
child_copied from to t = unless
    ((not (has_child from t), no_key)
    ∷ name_tests to
    ++ (has_child to t, exists)
    ∷ [])
    (option_map_or (λ k. with_child to k t) (find (is_named from) (children t)) t)

-- the root has this key as a child under a name, at most 512 levels in total
abbrev pub child_added : List ℕ → Tree → Tree → Result Tree Refusal
child_added name k t = unless
    (name_tests name
    ++ (has_child name t, exists)
    ∷ (nat_lt deepest_level (levels k + 1), too_deep)
    ∷ [])
    (with_child name k t)

-- ---- steps in order

-- the tree after a step, or why it is refused
abbrev pub after_step : Step → Tree → Result Tree Refusal
after_step (set_value path name kind bytes) t = value_set path name kind bytes t
after_step (delete_value path name) t = value_deleted path name t
after_step (make_key parent name) t = key_made parent name t
after_step (delete_key path) t = key_deleted path t
after_step (copy_child from to) t = child_copied from to t
after_step (add_child name k) t = child_added name k t

-- the tree after the steps in order, or the refusal of the first that is refused
abbrev pub after_steps : Tree → List Step → Result Tree Refusal
after_steps t [] = Ok t
after_steps t (step ∷ steps) = after_step step t >>= (λ u. after_steps u steps)

-- the greatest bulk of an edited tree, 4096 bytes below the greatest size of bins data; so its packed form has at most
-- 16,773,120 bytes
abbrev pub most_bulk : ℕ
most_bulk = 16773120

-- the tree of a hive of this version after all steps, or why not: the first refusal, or that the result is too large
unfoldable pub edited : HiveVersion → Tree → List Step → Result Tree Refusal
edited version t steps = after_steps t steps >>= (λ u. if nat_lt most_bulk (bulk_of version u) then Err full else Ok u)

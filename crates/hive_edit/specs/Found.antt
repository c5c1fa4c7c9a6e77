-- What is found in a hive's tree. (This project's own.)
use Rattle.std.specs.Prelude.{◌≡◌, Some, ℕ, ◌+◌, ◌≤◌, List, [], map, length}
use Rattle.std.specs.Option.{option_map_or}
use Rattle.hive_model.specs.Tree.{Item, Tree, head, children, find_key, find_item}
use Rattle.hive_model.specs.Valid.{deepest_level, HoldsKeys, levels}

-- the names of the children of the key that a path leads to, in order; none where there is no such key
abbrev pub found_names : List (List ℕ) → Tree → List (List ℕ)
found_names path t = option_map_or (λ key. map (λ child. (head child).name) (children key)) (find_key path t) []

-- a key that is below this path, which a hive can hold there
pub record FitsBelow (path : List (List ℕ)) (t : Tree) : Type 0 where
  pub keys : HoldsKeys t
  pub levels : length path + levels t ≤ deepest_level

-- the key that the path leads to has a value of this name, with this type and these data
pub record HoldsValue (path : List (List ℕ)) (name : List ℕ) (kind : ℕ) (bytes : List ℕ) (t : Tree) : Type 0 where
  pub key : Tree
  pub value : Item
  pub at : find_key path t ≡ Some key
  pub found : find_item name key ≡ Some value
  pub kind_is : value.kind ≡ kind
  pub bytes_are : value.bytes ≡ bytes

-- What does a key's node tell of an item that a step gave the key? (Regf format 1.3 and 1.5, key node, the bytes at 52 to 67; the rule is
-- this project's own: a length is raised where a new item needs it.)
use Rattle.std.specs.Prelude.{◌≡◌, ◌≤◌, ℕ, zero, suc, ◌+◌, ◌*◌, if◌then◌else◌, List, [], length, find, Some, Ok}
use Rattle.std.specs.Option.{option_and_then, option_map_or}
use Rattle.hive_model.specs.Bins.{Cells}
use Rattle.hive_model.specs.KeyNode.{KeyNode, key_node_at}
use Rattle.hive_model.specs.Tree.{Tree, head, children, is_named}
use Rattle.hive_model.specs.Walk.{reading}
use Rattle.hive_model.specs.Edit.{Step, set_value, delete_value, make_key, delete_key, copy_child, add_child}
use Rattle.hive_model.specs.Footprint.{has_key, key_place}
use Rattle.hive_edit.specs.Hive.{HiveCells, cells_in}
use Rattle.hive_look.specs.Places.{value_place}
use Rattle.hive_edit.specs.Stepped.{IsStepped}

-- what a node records in one of the four fields: of the names and the classes of its children, and of the names and the data of its values
abbrev pub length_told : ℕ → KeyNode → ℕ
length_told zero n = n.greatest_child_name
length_told (suc zero) n = n.greatest_child_class
length_told (suc (suc zero)) n = n.greatest_value_name
length_told (suc (suc (suc field))) n = n.greatest_value_size

-- a node records no less than two lengths, in a field and the next
pub record TellsBoth (field first second : ℕ) (n : KeyNode) : Type 0 where
  pub first_told : first ≤ length_told field n
  pub second_told : second ≤ length_told (field + 1) n

-- the node of the key at a path does, if there is one
abbrev pub TellsAt : HiveCells → List (List ℕ) → ℕ → ℕ → ℕ → Type 0
TellsAt h path field first second =
    (x : ℕ) (n : KeyNode) → key_place (cells_in h) path h.root ≡ Some x → reading key_node_at (cells_in h) x ≡ Ok n → TellsBoth field first second n

-- how many bytes of UTF-16 a name has that the key at a path has no value of; 0 where it has one
abbrev pub new_name_length : Cells → List (List ℕ) → List ℕ → ℕ → ℕ
new_name_length cells path name root =
    option_map_or (λ at. 0) (option_and_then (value_place cells name) (key_place cells path root)) (2 * length name)

-- how long the class of the root's child of a name is
abbrev pub class_length : List ℕ → Tree → ℕ
class_length name t = option_map_or (λ k. length (head k).class) (find (is_named name) (children t)) 0

-- The key that got an item by a step records no less than its lengths: those of a value's name, where it is new, and of its data, or those of a
-- new child's name and class, the class of a key that is made being empty.
abbrev pub TellsItem : HiveCells → Step → HiveCells → Type 0
TellsItem old (set_value path name kind bytes) new = TellsAt new path 2 (new_name_length (cells_in old) path name old.root) (length bytes)
TellsItem old (delete_value path name) new = Unit {0}
TellsItem old (make_key parent name) new = TellsAt new parent 0 (if has_key parent name old.tree then 0 else 2 * length name) 0
TellsItem old (delete_key path) new = Unit {0}
TellsItem old (copy_child from to) new = TellsAt new [] 0 (2 * length to) (class_length from old.tree)
TellsItem old (add_child name k) new = TellsAt new [] 0 (2 * length name) (length (head k).class)

-- one step was made, and the key that got an item by it records the item's lengths
pub record IsToldStep (old : HiveCells) (step : Step) (new : HiveCells) : Type 0 where
  pub stepped : IsStepped old step new
  pub told : TellsItem old step new

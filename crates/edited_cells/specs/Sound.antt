-- What well-formed cells have that a step's cells need: names that tell children and values apart, and few levels.
use Rattle.std.specs.Prelude.{◌≡◌, ◌<◌, ℕ, true, false, List, length, Ok}
use Rattle.nt_bytes.specs.Folding.{folds_same}
use Rattle.hive_model.specs.Bins.{Cells}
use Rattle.hive_model.specs.KeyNode.{KeyNode}
use Rattle.hive_model.specs.KeyValue.{KeyValue, key_value_at}
use Rattle.hive_model.specs.Walk.{reading, node_at}
use Rattle.hive_model.specs.Footprint.{child_places}
use Rattle.edited_cells.specs.Owned.{In, node_name, value_name, value_places, Reaches}

-- a node with a name
pub record IsNamedNode (cells : Cells) (at : ℕ) : Type 0 where
  pub node : KeyNode
  pub read : reading (node_at false) cells at ≡ Ok node

-- a value
pub record IsValueThere (cells : Cells) (at : ℕ) : Type 0 where
  pub value : KeyValue
  pub read : reading key_value_at cells at ≡ Ok value

-- the key at an offset reads, and so do its children and values, which their names tell apart
pub record IsSound (cells : Cells) (at : ℕ) : Type 0 where
  pub child : (y : ℕ) → In (child_places cells at) y → IsNamedNode cells y
  pub one_child : (name : List ℕ) (y z : ℕ) → In (child_places cells at) y → In (child_places cells at) z
      → folds_same name (node_name cells y) ≡ true → folds_same name (node_name cells z) ≡ true → y ≡ z
  pub value : (v : ℕ) → In (value_places cells at) v → IsValueThere cells v
  pub one_value : (name : List ℕ) (v w : ℕ) → In (value_places cells at) v → In (value_places cells at) w
      → folds_same name (value_name cells v) ≡ true → folds_same name (value_name cells w) ≡ true → v ≡ w

-- this key and each below it
pub record AllSound (cells : Cells) (at : ℕ) : Type 0 where
  pub each : (path : List (List ℕ)) (x : ℕ) → Reaches cells at path x → IsSound cells x

-- the root and all below it, at most 512 levels
pub record IsSoundHive (cells : Cells) (root : ℕ) : Type 0 where
  pub all : AllSound cells root
  pub shallow : (path : List (List ℕ)) (x : ℕ) → Reaches cells root path x → length path < 512

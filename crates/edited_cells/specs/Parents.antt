-- Which key does a key's node name as its parent? (Regf format 1.3 and 1.5, key node, the four bytes at 16.)
use Rattle.std.specs.Prelude.{◌≡◌, ℕ, List, Ok}
use Rattle.hive_model.specs.Bins.{Cells}
use Rattle.hive_model.specs.KeyNode.{KeyNode, key_node_at}
use Rattle.hive_model.specs.Walk.{reading}
use Rattle.hive_model.specs.Footprint.{child_places}
use Rattle.edited_cells.specs.Owned.{In, Reaches}

-- each key below the one at an offset names the node of the key above it as its parent
pub record NamesParents (cells : Cells) (root : ℕ) : Type 0 where
  pub each : (path : List (List ℕ)) (x y : ℕ) (n : KeyNode) → Reaches cells root path x → In (child_places cells x) y
      → reading key_node_at cells y ≡ Ok n → n.parent ≡ x

-- the key at an offset names this one as its parent, and those below it name theirs
pub record IsChildOf (cells : Cells) (x y : ℕ) : Type 0 where
  pub here : (n : KeyNode) → reading key_node_at cells y ≡ Ok n → n.parent ≡ x
  pub below : NamesParents cells y

-- a key's node was read before, and names the parent that it named
pub record KeepsParent (b c : Cells) (x : ℕ) : Type 0 where
  pub each : (m : KeyNode) → reading key_node_at c x ≡ Ok m → (n : KeyNode) × (reading key_node_at b x ≡ Ok n) × (m.parent ≡ n.parent)

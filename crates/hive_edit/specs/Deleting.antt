-- Where is a key that is deleted in place, and what is it taken out of? (This project's own.)
use Rattle.std.specs.Prelude.{◌≡◌, ◌<◌, ◌-◌, ℕ, true, false, List, [], ◌∷◌, length, find, Option, Some, None, Ok}
use Rattle.std.specs.Option.{option_and_then}
use Rattle.nt_bytes.specs.declared.version.HiveVersion.{HiveVersion}
use Rattle.hive_model.specs.Bins.{Bin, Cells, look_up}
use Rattle.hive_model.specs.Tree.{Tree}
use Rattle.hive_model.specs.KeyNode.{KeyNode, key_node_at}
use Rattle.hive_model.specs.Walk.{reading}
use Rattle.hive_model.specs.Footprint.{child_places, is_node_named}
use Rattle.hive_model.specs.Stands.{IsWellFormed}
use Rattle.hive_cells.specs.Held.{held_at}
use Rattle.edited_cells.specs.Owned.{In}
use Rattle.edited_cells.specs.Uses.{tree_uses}
use Rattle.hive_edit.specs.declared.deleting.KeyPair.{KeyPair}
use Rattle.hive_edit.specs.declared.making.Above.{Above}
use Rattle.hive_edit.specs.Making.{AboveIs}
use Rattle.hive_edit.specs.Hive.{HiveCells, cells_in}
use Rattle.hive_edit.specs.Dropped.{times, IsRecounted, IsRemoved, LacksRoomWithout}

-- the key at an offset, below the one above it
abbrev pub pair : ℕ → ℕ → KeyPair
pair above at = record { above = above; at = at }

-- the key that a path from the one at an offset leads to, and the key above it, where this one is below another
abbrev pub pair_from : Cells → List (List ℕ) → ℕ → ℕ → Option KeyPair
pair_from cells [] above at = Some (pair above at)
pair_from cells (name ∷ path) above at = option_and_then (pair_from cells path at) (find (is_node_named cells name) (child_places cells at))

-- the key that a path leads to, and the key above it; the root has none above it
abbrev pub pair_place : Cells → List (List ℕ) → ℕ → Option KeyPair
pair_place cells [] root = None
pair_place cells (name ∷ path) root = pair_from cells (name ∷ path) root root

-- how many levels are left for a key at a path and those below it
abbrev pub levels_left : List (List ℕ) → ℕ
levels_left path = 512 - length path

-- a path leads to a key below another, in cells in which a tree stands
pub record IsPairThere (version : HiveVersion) (root : ℕ) (path : List (List ℕ)) (p : KeyPair) (bins : List Bin) : Type 0 where
  pub tree : Tree
  pub well : IsWellFormed (look_up version bins) root tree
  pub place : pair_place (look_up version bins) path root ≡ Some p

-- the key is taken out of the one above it, with all that it and the keys below it use
pub record IsPairTaken (version : HiveVersion) (path : List (List ℕ)) (p : KeyPair) (old new : List Bin) : Type 0 where
  pub above : Above
  pub few : above.count < 4294967296
  pub says : (n : KeyNode) → reading key_node_at (look_up version old) p.above ≡ Ok n → AboveIs above n
  pub removed : IsRemoved version p.above above p.at (tree_uses (levels_left path) (look_up version old) p.at) old new

-- there is no room for the lists of the key above without it, and the cells are as they were
pub record IsPairKept (version : HiveVersion) (p : KeyPair) (old new : List Bin) : Type 0 where
  pub above : Above
  pub says : (n : KeyNode) → reading key_node_at (look_up version old) p.above ≡ Ok n → AboveIs above n
  pub lacks : LacksRoomWithout version above p.at old new

-- The cells that the key at a path and the keys below it used, but those of security, are free, and each cell of security that they
-- used counts one key less for each use of it.
pub record DropsUses (old : HiveCells) (path : List (List ℕ)) (new : HiveCells) : Type 0 where
  pub pair : KeyPair
  pub place : pair_place (cells_in old) path old.root ≡ Some pair
  pub gone : (o : ℕ) → In (tree_uses (levels_left path) (cells_in old) pair.at) (o, false) → held_at new.bins o ≡ None
  pub counted : (o : ℕ) (q : List ℕ) → In (tree_uses (levels_left path) (cells_in old) pair.at) (o, true) → held_at old.bins o ≡ Some q
      → (r : List ℕ) × (held_at new.bins o ≡ Some r) × IsRecounted (times o (tree_uses (levels_left path) (cells_in old) pair.at)) q r

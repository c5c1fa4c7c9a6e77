-- What an edit of a hive leaves of its cells. (This project's own.)
use Rattle.std.specs.Prelude.{◌≡◌, ◌≤◌, ◌<◌, ◌++◌, ℕ, Bool, false, if◌then◌else◌, List, is_some, Option, Some, None, Result, Ok, Err}
use Rattle.std.specs.Option.{option_and_then}
use Rattle.std.specs.Int.{w32, to_le_bytes}
use Rattle.nt_bytes.specs.declared.fault.HiveFaultKind.{HiveFaultKind}
use Rattle.hive_model.specs.Limits.{most_bins}
use Rattle.hive_model.specs.Bins.{Bin, Cells, bins_size}
use Rattle.hive_model.specs.KeyValue.{KeyValue, key_value_at, data_inside}
use Rattle.hive_model.specs.Walk.{reading}
use Rattle.hive_model.specs.Edit.{Step}
use Rattle.hive_model.specs.Footprint.{key_place, strain_of}
use Rattle.hive_model.specs.Owned.{IsInFootprint}
use Rattle.hive_model.specs.Packed.{packed_bins}
use Rattle.hive_cells.specs.Held.{held_at}
use Rattle.hive_cells.specs.Changes.{at_cell, with_part}
use Rattle.edited_cells.specs.Parents.{NamesParents}
use Rattle.hive_edit.specs.Hive.{HiveCells, cells_in}
use Rattle.hive_look.specs.Places.{value_place}
use Rattle.hive_edit.specs.Steps.{AreStepped}

-- where each key below another named the node of that one as its parent, each does
abbrev pub KeepsParents : HiveCells → HiveCells → Type 0
KeepsParents old new = NamesParents (cells_in old) old.root → NamesParents (cells_in new) new.root

-- In place: each cell that was allocated, and is in the footprint of no step, has its offset and its payload, the root is where it was,
-- the bins data are as long as before, or longer, and where each key below another named the node of that one as its parent, each does.
-- The steps were made one by one, each on the cells that the one before left, and `IsToldStep` says what each made of them.
pub record IsEditedInPlace (old : HiveCells) (steps : List Step) (new : HiveCells) : Type 0 where
  pub kept : (o : ℕ) (p : List ℕ) → held_at old.bins o ≡ Some p → (IsInFootprint (cells_in old) old.root old.tree steps o → ⊥)
      → held_at new.bins o ≡ Some p
  pub root : new.root ≡ old.root
  pub long : bins_size old.bins ≤ bins_size new.bins
  pub parents : KeepsParents old new
  pub stepped : AreStepped old steps new

-- repacked: the cells are those of the packed form of the tree, and each key below another names the node of that one as its parent
pub record IsPackedAnew (h : HiveCells) : Type 0 where
  pub bins : h.bins ≡ packed_bins h.version h.tree
  pub root : h.root ≡ 32
  pub parents : NamesParents (cells_in h) h.root

-- repacked for want of room: the strain of the steps is over the greatest size of bins data
pub record IsPackedForRoom (old : HiveCells) (steps : List Step) (new : HiveCells) : Type 0 where
  pub packed : IsPackedAnew new
  pub strained : most_bins < strain_of old.version (bins_size old.bins) old.tree steps

-- the value that was read holds its data itself
abbrev pub held_itself : Result KeyValue HiveFaultKind → Bool
held_itself (Ok value) = is_some (data_inside value)
held_itself (Err kind) = false

-- the value at an offset holds its data itself
abbrev pub holds_itself : Cells → ℕ → Bool
holds_itself cells at = held_itself (reading key_value_at cells at)

-- the offset of a value that holds its data itself
abbrev pub if_inside : Cells → ℕ → Option ℕ
if_inside cells at = if holds_itself cells at then Some at else None

-- the offset of the value of this name in the key at a path, where it holds its data itself
abbrev pub inside_place : Cells → List (List ℕ) → List ℕ → ℕ → Option ℕ
inside_place cells path name root =
    option_and_then (λ key. option_and_then (if_inside cells) (value_place cells name key)) (key_place cells path root)

-- the twelve bytes of a value's size, offset and type (regf format, Key value)
abbrev pub value_fields : ℕ → ℕ → ℕ → List ℕ
value_fields size offset kind = to_le_bytes w32 size ++ (to_le_bytes w32 offset ++ to_le_bytes w32 kind)

-- from bins to bins only these fields were written, over those of the value at an offset: no other byte differs
pub record WritesFields (at : ℕ) (fields : List ℕ) (old new : List Bin) : Type 0 where
  pub exact : new ≡ at_cell at (with_part 4 fields) old
  pub long : bins_size new ≡ bins_size old

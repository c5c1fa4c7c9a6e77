-- What is done where a key is put below the root with all below it? (This project's own; the field: regf format 1.3 and 1.5, key
-- security.)
use Rattle.std.specs.Prelude.{◌≡◌, ◌<◌, ◌^◌, ℕ, ◌+◌, min, ◌==◌, if◌then◌else◌, List, [], ◌∷◌, length, Some, Result, Ok}
use Rattle.std.specs.Int.{w32, to_le_bytes}
use Rattle.nt_bytes.specs.Fields.{u32_in}
use Rattle.nt_bytes.specs.declared.version.HiveVersion.{HiveVersion}
use Rattle.nt_bytes.specs.declared.fault.HiveFaultKind.{HiveFaultKind}
use Rattle.edited_cells.specs.Relists.{descriptor_at, IsSecurityCell}
use Rattle.hive_model.specs.Limits.{most_bins}
use Rattle.hive_model.specs.Bins.{Bin, Cells, bins_size, look_up}
use Rattle.hive_model.specs.Tree.{Tree}
use Rattle.hive_model.specs.Valid.{HoldsKeys}
use Rattle.hive_model.specs.Size.{size}
use Rattle.hive_model.specs.Packed.{text, cells_of, sharers}
use Rattle.hive_model.specs.Walk.{nowhere}
use Rattle.hive_model.specs.Footprint.{list_strain_of}
use Rattle.hive_cells.specs.Held.{held_at, patched, run_cells}
use Rattle.key_index.specs.Lists.{hints_in}
use Rattle.key_index.specs.Relists.{AreRelisted}
use Rattle.hive_pack.specs.Below.{beside}
use Rattle.hive_pack.specs.Numbers.{HasNumbers}
use Rattle.hive_edit.specs.declared.making.Above.{Above}
use Rattle.hive_edit.specs.Making.{above_lists, above_children, child_fields, IsLinkable, IsWritten}
use Rattle.hive_edit.specs.Runs.{IsPlace, IsRunPutAt}

-- how many keys of a tree use the cell of a descriptor that is shared with the key above them; an empty one has no cell
abbrev pub sharing : List ℕ → Tree → ℕ
sharing [] k = 0
sharing (b ∷ s) k = sharers (b ∷ s) k

-- a count of uses with that many more, at most the greatest of four bytes
abbrev pub counted_more : ℕ → ℕ → ℕ
counted_more keys uses = min (uses + keys) 4294967295

-- the count in a cell of security, which fits four bytes, was raised by that many, if there is one
pub record IsRaisedBy (at keys : ℕ) (old new : List Bin) : Type 0 where
  pub here : (p : List ℕ) → (at ≡ nowhere → ⊥) → held_at old at ≡ Some p
      → held_at new at ≡ Some (patched 12 (to_le_bytes w32 (counted_more keys (u32_in p 12))) p)
  pub small : (p : List ℕ) → (at ≡ nowhere → ⊥) → held_at old at ≡ Some p → u32_in p 12 < 2 ^ 32
  pub others : (o : ℕ) → ((at ≡ nowhere → ⊥) → o ≡ at → ⊥) → held_at new o ≡ held_at old o
  pub long : bins_size new ≡ bins_size old

-- a key is named by new lists of its parent, whose node says so, and that many keys more use the security
pub record IsLinkedBy (version : HiveVersion) (parent : ℕ) (above : Above) (child keys : ℕ) (old new : List Bin) : Type 0 where
  pub listed : List Bin
  pub noted : List Bin
  pub list : ℕ
  pub small : list < 2 ^ 32
  pub volatile : above.volatile < 2 ^ 32
  pub lists : AreRelisted version (above_lists version above old) (above_children version above child old)
      (hints_in (look_up version old) (above_children version above child old)) old listed list
  pub fields : IsWritten parent 20 (child_fields (above.count + 1) above.volatile list) listed noted
  pub counted : IsRaisedBy above.security keys noted new

-- the bytes of the cells of a key at a place and of all below it, which shares a descriptor whose cell is beside them
abbrev pub run_of : HiveVersion → ℕ → Above → List ℕ → Tree → ℕ → List ℕ
run_of version parent above shared k at = text (cells_of version (beside version parent shared above.security at k) at k)

-- they were put there, where nothing was, and nothing else changed
pub record IsRunPut (version : HiveVersion) (parent : ℕ) (above : Above) (shared : List ℕ) (k : Tree) (at : ℕ) (old new : List Bin) : Type 0 where
  pub run : List ℕ
  pub is : run ≡ run_of version parent above shared k at
  pub put : IsRunPutAt (length run) at (run_cells run) old new

-- what is asked of a key and a place for its run, and of the parent: with the run put there, the key can be named
pub record CanGraft (version : HiveVersion) (parent : ℕ) (above : Above) (shared : List ℕ) (k : Tree) (at : ℕ) (bins : List Bin) : Type 0 where
  pub holds : HoldsKeys k
  pub place : IsPlace (size version shared k) bins at
  pub linkable : (mid : List Bin) → HasNumbers k → IsRunPut version parent above shared k at bins mid → IsLinkable version parent above at mid

-- the run is there, the key is named, and the same number of keys more use the security as share it
pub record IsGrafted (version : HiveVersion) (parent : ℕ) (above : Above) (shared : List ℕ) (k : Tree) (at : ℕ) (old new : List Bin) : Type 0 where
  pub numbers : HasNumbers k
  pub mid : List Bin
  pub put : IsRunPut version parent above shared k at old mid
  pub linked : IsLinkedBy version parent above at (sharing shared k) mid new

-- the run is there, and there is no room for lists that name the key
pub record LacksGraftLists (version : HiveVersion) (parent : ℕ) (above : Above) (shared : List ℕ) (k : Tree) (at : ℕ) (old new : List Bin) : Type 0 where
  pub numbers : HasNumbers k
  pub put : IsRunPut version parent above shared k at old new
  pub lacks : most_bins < list_strain_of (bins_size new) (length (above_children version above at new))

-- ---- the security that is shared

-- the descriptor at an offset, none where that names nothing
abbrev pub descriptor_of : Cells → ℕ → Result (List ℕ) HiveFaultKind
descriptor_of cells at = if at == nowhere then Ok [] else descriptor_at cells at

-- a descriptor that a key below the root may share: some key of the tree has it, in the cell of security at an offset, or it is empty,
-- where the offset names nothing
pub record SharesAt (cells : Cells) (root at : ℕ) (shared : List ℕ) : Type 0 where
  pub small : at < 2 ^ 32
  pub descriptor : descriptor_of cells at ≡ Ok shared
  pub used : (at ≡ nowhere → ⊥) → IsSecurityCell cells root at

-- What is at an offset of damaged bins data (regf format 1.3 and 1.5, hive bin cells; loose cells are this project's own)?
use Rattle.std.specs.Prelude.{ℕ, ◌+◌, ◌/◌, ◌%◌, ◌==◌, ◌&&◌, nat_lt, nat_le, Bool, true, false, if◌then◌else◌, List, length, slice_range, slice_index_or, Result, Ok, Err}
use Rattle.nt_bytes.specs.Fields.{u32_in}
use Rattle.nt_bytes.specs.declared.fault.HiveFaultKind.{HiveFaultKind}
use Rattle.nt_bytes.specs.declared.fault.HiveFaultKind.TheVariants.{OutOfRange, FreeCell}
use Rattle.hive_model.specs.Bins.{Cells, magnitude}
use Rattle.salvage_bins.specs.declared.layout.Mark.{Mark}
use Rattle.salvage_bins.specs.declared.layout.Mark.TheVariants.{Nothing, InBin, Loose}
use Rattle.salvage_bins.specs.declared.cells.DamagedCells.{DamagedCells}

-- the mark of the place that begins at this offset of the bytes
abbrev pub mark_at : List ℕ → List Mark → ℕ → Mark
mark_at bytes marks at =
    if (at % 8 == 0) && nat_le (at + 8) (length bytes) then slice_index_or marks (at / 8) Nothing else Nothing

-- the payload of the cell that begins at this offset of the bytes, where it is allocated
unfoldable pub payload_here : List ℕ → ℕ → Result (List ℕ) HiveFaultKind
payload_here bytes at =
    if nat_lt (u32_in bytes at) 2147483648 then Err FreeCell
    else Ok (slice_range bytes (at + 4) (at + magnitude (u32_in bytes at)))

-- the same, as this mark says whether a cell begins there
abbrev pub payload_by : Mark → List ℕ → ℕ → Result (List ℕ) HiveFaultKind
payload_by Nothing bytes at = Err OutOfRange
payload_by InBin bytes at = payload_here bytes at
payload_by Loose bytes at = payload_here bytes at

-- a cell among loose bytes begins here
abbrev pub is_loose : Mark → Bool
is_loose Nothing = false
is_loose InBin = false
is_loose Loose = true

-- the allocated cells of a damaged hive, and at which offsets a cell begins among loose bytes
pub record Ground : Type 0 where
  pub cells : Cells
  pub loose : ℕ → Bool
  pub slots : ℕ

-- the cells of these bytes, by their marks
abbrev pub ground_of : DamagedCells → Ground
ground_of c = record {
  cells = record { version = c.version; payload = λ at. payload_by (mark_at c.bytes.now c.marks.now at) c.bytes.now at };
  loose = λ at. is_loose (mark_at c.bytes.now c.marks.now at);
  slots = length c.bytes.now / 8;
}

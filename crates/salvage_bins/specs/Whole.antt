-- When is a bin whole, and where do its cells begin (regf format 1.3 and 1.5, hive bins and hive bin cells)?
use Rattle.std.specs.Prelude.{ℕ, zero, suc, ◌+◌, ◌-◌, ◌*◌, ◌/◌, List, [], ◌∷◌, drop, Result, Ok}
use Rattle.nt_bytes.specs.declared.fault.HiveFault.{HiveFault}
use Rattle.nt_bytes.specs.Reading.{◌>>=◌}
use Rattle.hive_model.specs.Bins.{header_at, size_at, with_place}
use Rattle.salvage_bins.specs.declared.layout.Mark.{Mark}
use Rattle.salvage_bins.specs.declared.layout.Mark.TheVariants.{Nothing, InBin}

-- The mark of the place of eight bytes at the front of bytes, of which the cell before covers this and that many more places, in a bin
-- that has this much room from here; and how many places after it are covered then. Or the check of the cell that fails.
unfoldable pub slot_mark : ℕ → ℕ → ℕ → List ℕ → Result (Mark × ℕ) HiveFault
slot_mark room (suc covered) at bytes = Ok (Nothing, covered)
slot_mark room zero at bytes = with_place at (size_at room bytes) >>= λ size. Ok (InBin, size / 8 - 1)

-- the marks of that many places of eight bytes from here to the end of the bin, or the first check of its cells that fails
unfoldable pub cell_marks : ℕ → ℕ → ℕ → List ℕ → Result (List Mark) HiveFault
cell_marks zero covered at bytes = Ok []
cell_marks (suc n) covered at bytes =
    slot_mark (8 * suc n) covered at bytes >>= λ mark.
    cell_marks n mark.1 (at + 8) (drop 8 bytes) >>= λ more.
    Ok (mark.0 ∷ more)

-- the bin at the front of bytes, at this place: its marks, four of them for its header, and its size; or its first check that fails
unfoldable pub bin_marks : ℕ → List ℕ → Result (List Mark × ℕ) HiveFault
bin_marks at bytes =
    with_place at (header_at at bytes) >>= λ size.
    cell_marks (size / 8 - 4) 0 (at + 32) (drop 32 bytes) >>= λ marks.
    Ok (Nothing ∷ Nothing ∷ Nothing ∷ Nothing ∷ marks, size)

-- Bins read back from their bytes, and the table of the places where cells begin.
use Rattle.std.specs.Prelude.{◌≡◌, ℕ, zero, suc, ◌+◌, ◌-◌, ◌/◌, nat_lt, Bool, true, false, if◌then◌else◌, List, [], ◌∷◌, ◌++◌, length, take, drop, Result, Ok, Err, slice_range, replicate}
use Rattle.std.specs.List.{AllByRecursion, flat_map}
use Rattle.nt_bytes.specs.declared.fault.HiveFault.{HiveFault}
use Rattle.nt_bytes.specs.declared.fault.ReadStop.{ReadStop}
use Rattle.nt_bytes.specs.declared.fault.ReadStop.TheVariants.{Fault, Memory}
use Rattle.nt_bytes.specs.Fields.{u32_in}
use Rattle.nt_bytes.specs.Reading.{◌>>=◌}
use Rattle.hive_model.specs.Bins.{Cell, Bin, cell_size, cells_size, bin_size, bins_size, head_bytes, cell_bytes, bin_bytes, spelled, IsCell, IsBin, IsHeap, IsBins, BinsFault, header_at, size_at, with_place}

-- is the cell allocated, and its size
abbrev pub head_of : Cell → Bool × ℕ
head_of c = (c.allocated, cell_size c)

abbrev pub cell_in : ℕ → List ℕ → Cell
cell_in size bytes = record { allocated = if nat_lt (u32_in bytes 0) 2147483648 then false else true; payload = slice_range bytes 4 size }

-- the cells that fill the room at the front of bytes, or the first that fails; fuel is at least the room
unfoldable pub cells_in : ℕ → ℕ → ℕ → List ℕ → Result (List Cell) HiveFault
cells_in fuel zero at bytes = Ok []
cells_in zero (suc room) at bytes = Ok []
cells_in (suc fuel) (suc room) at bytes =
    with_place at (size_at (suc room) bytes) >>= λ size.
    cells_in fuel (suc room - size) (at + size) (drop size bytes) >>= λ cells.
    Ok (cell_in size bytes ∷ cells)

-- the bins that fill bytes, or the first fault; fuel is at least the length
unfoldable pub bins_in : ℕ → ℕ → List ℕ → Result (List Bin) HiveFault
bins_in fuel at [] = Ok []
bins_in zero at (x ∷ xs) = Ok []
bins_in (suc fuel) at (x ∷ xs) =
    with_place at (header_at at (x ∷ xs)) >>= λ size.
    cells_in size (size - 32) (at + 32) (drop 32 (x ∷ xs)) >>= λ cells.
    bins_in fuel (at + size) (drop size (x ∷ xs)) >>= λ bins.
    Ok (record { ignored = slice_range (x ∷ xs) 12 32; cells = cells } ∷ bins)

abbrev pub or_none : {A E : Type 0} → Result (List A) E → List A
or_none (Ok xs) = xs
or_none (Err e) = []

unfoldable pub bins_of : List ℕ → List Bin
bins_of text = or_none (bins_in (length text) 0 text)

-- ---- the table, one entry for eight bytes

abbrev pub cell_marks : Cell → List Bool
cell_marks c = true ∷ replicate (cell_size c / 8 - 1) false

abbrev pub bin_marks : Bin → List Bool
bin_marks b = replicate 4 false ++ flat_map cell_marks b.cells

abbrev pub marks : List Bin → List Bool
marks bins = flat_map bin_marks bins

-- the bytes and the table are those of some bins
pub record IsKept (text : List ℕ) (starts : List Bool) : Type 0 where
  pub bins : List Bin
  pub sound : IsHeap bins
  pub bytes : text ≡ spelled 0 bins
  pub table : starts ≡ marks bins

-- ---- what the readers did

-- a bin was read off the front of bytes
pub record BinRead (at : ℕ) (bytes : List ℕ) (old new : List Bool) (size : ℕ) : Type 0 where
  pub bin : Bin
  pub rest : List ℕ
  pub sound : IsBin bin
  pub parts : bytes ≡ bin_bytes at bin ++ rest
  pub sized : size ≡ bin_size bin
  pub table : new ≡ old ++ bin_marks bin

-- such a bin was read where each flag of the table from it on is off, and each after it is still off
pub record BinMarked (at : ℕ) (bytes : List ℕ) (old new : List Bool) (size : ℕ) : Type 0 where
  pub read : BinRead at bytes (take (at / 8) old) (take ((at + size) / 8) new) size
  pub off : drop ((at + size) / 8) new ≡ replicate ((length bytes - size) / 8) false

-- and with no table, for each that it may come after
abbrev pub IsBinRead : ℕ → List ℕ → ℕ → Type 0
IsBinRead at bytes size = (old : List Bool) → (new : List Bool) × BinRead at bytes old new size

-- why bytes gave no heap: the first check that fails, or out of memory, where none does
abbrev pub Stops : List ℕ → ReadStop → Type 0
Stops text Memory = (bins : List Bin) × IsBins text bins
Stops text (Fault f) = BinsFault text f

-- the cells of a bin so far
pub record CellsRead (at : ℕ) (bytes : List ℕ) (old new : List Bool) (size cell : ℕ) : Type 0 where
  pub cells : List Cell
  pub sound : AllByRecursion IsCell cells
  pub parts : bytes ≡ head_bytes at size (slice_range bytes 12 32) ++ (flat_map cell_bytes cells ++ drop cell bytes)
  pub place : cell ≡ 32 + cells_size cells
  pub table : new ≡ old ++ (replicate 4 false ++ flat_map cell_marks cells)

-- the bins so far
pub record BinsRead (text : List ℕ) (at : ℕ) (starts : List Bool) : Type 0 where
  pub bins : List Bin
  pub sound : AllByRecursion IsBin bins
  pub parts : text ≡ spelled 0 bins ++ drop at text
  pub place : at ≡ bins_size bins
  pub table : starts ≡ marks bins

-- Which free cell is taken? The lowest that is large enough, or that of a new bin.
use Rattle.std.specs.Prelude.{◌≡◌, ◌⊎◌, ℕ, ◌+◌, ◌-◌, ◌/◌, ◌<◌, ◌≤◌, false, if◌then◌else◌, List, [], ◌∷◌, ◌++◌, replicate, Option, Some, None, MatchOption}
use Rattle.std.specs.List.{flat_map}
use Rattle.hive_model.specs.Limits.{most_bins}
use Rattle.hive_model.specs.Bins.{Cell, Bin, cell_size, bins_size, cell_at}
use Rattle.hive_model.specs.Packed.{rounded}

-- ---- the sizes of the free cells

-- the size of a free cell, or 0
abbrev pub free_size : Option Cell → ℕ
free_size None = 0
free_size (Some c) = if c.allocated then 0 else cell_size c

-- for each eight bytes of a cell the size of the free cell that begins there, or 0
abbrev pub cell_free_sizes : Cell → List ℕ
cell_free_sizes c = (if c.allocated then 0 else cell_size c) ∷ replicate (cell_size c / 8 - 1) 0

-- the same of a bin
abbrev pub bin_free_sizes : Bin → List ℕ
bin_free_sizes b = replicate 4 0 ++ flat_map cell_free_sizes b.cells

-- the same of bins
abbrev pub free_sizes : List Bin → List ℕ
free_sizes bins = flat_map bin_free_sizes bins

-- ---- free cells

-- a free cell of at least this size begins here
pub record IsHole (size : ℕ) (bins : List Bin) (at : ℕ) : Type 0 where
  pub cell : Cell
  pub here : cell_at bins at ≡ Some cell
  pub free : cell.allocated ≡ false
  pub fits : size ≤ cell_size cell

-- and none below
pub record IsLowestHole (size : ℕ) (bins : List Bin) (at : ℕ) : Type 0 where
  pub hole : IsHole size bins at
  pub lowest : (o : ℕ) (c : Cell) → o < at → cell_at bins o ≡ Some c → c.allocated ≡ false → cell_size c < size

-- each free cell is smaller
abbrev pub NoneFits : ℕ → List Bin → Type 0
NoneFits size bins = (o : ℕ) (c : Cell) → cell_at bins o ≡ Some c → c.allocated ≡ false → cell_size c < size

-- the lowest free cell of at least this size, or none where each free cell is smaller
abbrev pub FindsHole : ℕ → List Bin → Option ℕ → Type 0
FindsHole size bins r = MatchOption r (NoneFits size bins) (IsLowestHole size bins)

-- ---- a new bin

-- the size of the bin that is appended for a cell of this size: with its header of 32 bytes, of whole 4096
abbrev pub new_bin_size : ℕ → ℕ
new_bin_size size = rounded (size + 32)

-- a bin of this size, one free cell in it
abbrev pub free_bin : ℕ → Bin
free_bin size = record { ignored = replicate 20 0; cells = record { allocated = false; payload = replicate (size - 36) 0 } ∷ [] }

-- a bin for a cell of this size stands after the others, and its free cell begins here
pub record HasGrown (size : ℕ) (old new : List Bin) (at : ℕ) : Type 0 where
  pub fits : bins_size old + new_bin_size size ≤ most_bins
  pub place : at ≡ bins_size old + 32
  pub bins : new ≡ old ++ free_bin (new_bin_size size) ∷ []

-- the bins data would be longer than 16 MiB by such a bin, and are as they were
abbrev pub IsFull : ℕ → List Bin → List Bin → Type 0
IsFull size old new = (most_bins < bins_size old + new_bin_size size) × (new ≡ old)

-- a bin for a cell of this size, or none exactly where it would make the bins data longer than 16 MiB
abbrev pub Grows : ℕ → List Bin → List Bin → Option ℕ → Type 0
Grows size old new r = MatchOption r (IsFull size old new) (HasGrown size old new)

-- the lowest free cell that is large enough, else that of a new bin
abbrev pub FindsRoom : ℕ → List Bin → List Bin → ℕ → Type 0
FindsRoom size old new at = (IsLowestHole size old at × (new ≡ old)) ⊎ (NoneFits size old × HasGrown size old new at)

-- such a cell, or none exactly where none is large enough and a new bin would make the bins data longer than 16 MiB
abbrev pub MakesRoom : ℕ → List Bin → List Bin → Option ℕ → Type 0
MakesRoom size old new r = MatchOption r (NoneFits size old × IsFull size old new) (FindsRoom size old new)

-- What do the changes of a heap leave of its bins? Each changes the cells of one bin from one cell on.
use Rattle.std.specs.Prelude.{◌≡◌, ℕ, ◌+◌, ◌-◌, ◌/◌, ◌==◌, nat_lt, Bool, true, false, if◌then◌else◌, List, [], ◌∷◌, ◌++◌, length, take, drop, replicate, Option, Some, None, MatchOption}
use Rattle.std.specs.List.{flat_map}
use Rattle.hive_model.specs.Bins.{Cell, Bin, cell_size, cells_size, bin_size, cell_bytes}
use Rattle.hive_model.specs.Size.{cell}
use Rattle.hive_cells.specs.Reading.{cell_marks}
use Rattle.hive_cells.specs.Held.{run_cells, patched}
use Rattle.hive_cells.specs.Holes.{MakesRoom}

-- these cells, the first at p, changed by f from the one that begins at o on
abbrev pub at_cells : ℕ → (List Cell → List Cell) → ℕ → List Cell → List Cell
at_cells o f p [] = []
at_cells o f p (c ∷ cs) = if p == o then f (c ∷ cs) else c ∷ at_cells o f (p + cell_size c) cs

-- the same in bins, the first at p
abbrev pub at_bins : ℕ → (List Cell → List Cell) → ℕ → List Bin → List Bin
at_bins o f p [] = []
at_bins o f p (b ∷ bs) = record { ignored = b.ignored; cells = at_cells o f (p + 32) b.cells } ∷ at_bins o f (p + bin_size b) bs

-- bins with the cells from the one at an offset to the end of its bin changed by f
abbrev pub at_cell : ℕ → (List Cell → List Cell) → List Bin → List Bin
at_cell o f bins = at_bins o f 0 bins

-- what a free cell leaves free after its first n bytes
abbrev pub rest_of : ℕ → Cell → List Cell
rest_of n c = if nat_lt n (cell_size c) then record { allocated = false; payload = drop n c.payload } ∷ [] else []

-- the first cell gives place to a run, and what remains of it is free
abbrev pub with_run : List Cell → List Cell → List Cell
with_run run [] = []
with_run run (c ∷ cs) = run ++ (rest_of (cells_size run) c ++ cs)

-- the first cell has a part written into its payload
abbrev pub with_part : ℕ → List ℕ → List Cell → List Cell
with_part from part [] = []
with_part from part (c ∷ cs) = record { allocated = c.allocated; payload = patched from part c.payload } ∷ cs

-- the first cell is free
abbrev pub with_free : List Cell → List Cell
with_free [] = []
with_free (c ∷ cs) = record { allocated = false; payload = c.payload } ∷ cs

-- the first two cells are one free cell
abbrev pub with_next : List Cell → List Cell
with_next (c ∷ d ∷ cs) = record { allocated = false; payload = c.payload ++ cell_bytes d } ∷ cs
with_next (c ∷ []) = c ∷ []
with_next [] = []

-- ---- a cell more

-- an allocated cell for that many bytes, all zero
abbrev pub zero_cell : ℕ → Cell
zero_cell n = record { allocated = true; payload = replicate (cell n - 4) 0 }

-- room was made for a cell of that many bytes, and the cell is in it
pub record HasAllocated (n : ℕ) (old new : List Bin) (at : ℕ) : Type 0 where
  pub roomy : List Bin
  pub room : MakesRoom (cell n) old roomy (Some at)
  pub bins : new ≡ at_cell at (with_run (zero_cell n ∷ [])) roomy

-- a cell for that many bytes, or none exactly where there is no room
abbrev pub Allocates : ℕ → List Bin → List Bin → Option ℕ → Type 0
Allocates n old new r = MatchOption r (MakesRoom (cell n) old new None) (HasAllocated n old new)

-- ---- the table during a change

-- the cells of a run that are marked so far, up to `at` bytes of it
pub record MarkedSoFar (old : List Bool) (run : List ℕ) (slot : ℕ) (starts : List Bool) (at : ℕ) : Type 0 where
  pub front : List Cell
  pub back : List Cell
  pub cells : run_cells run ≡ front ++ back
  pub place : at ≡ cells_size front
  pub table : starts ≡ take slot old ++ (flat_map cell_marks front ++ (replicate ((length run - at) / 8) false ++ drop (slot + length run / 8) old))

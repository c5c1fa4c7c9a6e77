-- What does freeing leave? A cell is joined with the free ones on both sides of it in its bin.
use Rattle.std.specs.Prelude.{◌≡◌, ◌⊎◌, ℕ, ◌+◌, ◌<◌, false, List, Option, Some}
use Rattle.std.specs.Option.{IsSomeAnd}
use Rattle.hive_model.specs.Bins.{Cell, Bin, cell_size, cell_at}
use Rattle.hive_cells.specs.Holes.{free_size}
use Rattle.hive_cells.specs.Changes.{at_cell, with_free, with_next}

-- a cell of this size, and one after it
pub record Neighbours (at size more : ℕ) (bins : List Bin) : Type 0 where
  pub first : Cell
  pub second : Cell
  pub here : cell_at bins at ≡ Some first
  pub behind : cell_at bins (at + size) ≡ Some second
  pub sized : cell_size first ≡ size
  pub longer : cell_size second ≡ more

-- a free cell of this size ends where another place is
pub record EndsAt (at from size : ℕ) (bins : List Bin) : Type 0 where
  pub cell : Cell
  pub here : cell_at bins from ≡ Some cell
  pub free : cell.allocated ≡ false
  pub sized : cell_size cell ≡ size
  pub ends : from + size ≡ at

-- the cell is free and has this size
pub record IsFreeOf (size : ℕ) (o : Option Cell) : Type 0 where
  pub cell : Cell
  pub is : o ≡ Some cell
  pub free : cell.allocated ≡ false
  pub sized : cell_size cell ≡ size

-- the cell alone became free: no free one ends where it begins, none begins where it ends
pub record IsFreedAlone (at : ℕ) (old new : List Bin) : Type 0 where
  pub size : ℕ
  pub sized : IsSomeAnd (cell_at old at) (λ c. cell_size c ≡ size)
  pub apart : (from room : ℕ) → EndsAt at from room old → ⊥
  pub last : free_size (cell_at old (at + size)) ≡ 0
  pub is : new ≡ at_cell at with_free old

-- the cell and the free one after it became one
pub record IsFreedWithNext (at : ℕ) (old new : List Bin) : Type 0 where
  pub size : ℕ
  pub sized : IsSomeAnd (cell_at old at) (λ c. cell_size c ≡ size)
  pub apart : (from room : ℕ) → EndsAt at from room old → ⊥
  pub more : 0 < free_size (cell_at old (at + size))
  pub is : new ≡ at_cell at with_next old

-- the free cell before it and the cell became one
pub record IsFreedWithBefore (at : ℕ) (old new : List Bin) : Type 0 where
  pub size : ℕ
  pub sized : IsSomeAnd (cell_at old at) (λ c. cell_size c ≡ size)
  pub from : ℕ
  pub room : ℕ
  pub before : EndsAt at from room old
  pub last : free_size (cell_at old (at + size)) ≡ 0
  pub is : new ≡ at_cell from with_next old

-- the free cell before it, the cell and the free one after it became one
pub record IsFreedWithBoth (at : ℕ) (old new : List Bin) : Type 0 where
  pub size : ℕ
  pub sized : IsSomeAnd (cell_at old at) (λ c. cell_size c ≡ size)
  pub from : ℕ
  pub room : ℕ
  pub before : EndsAt at from room old
  pub more : 0 < free_size (cell_at old (at + size))
  pub is : new ≡ at_cell from with_next (at_cell at with_next old)

-- one of the four
abbrev pub IsFreed : ℕ → List Bin → List Bin → Type 0
IsFreed at old new = (IsFreedAlone at old new ⊎ IsFreedWithNext at old new) ⊎ (IsFreedWithBefore at old new ⊎ IsFreedWithBoth at old new)

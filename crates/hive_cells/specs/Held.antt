-- What is allocated where? The cells as a map from offsets to payloads.
use Rattle.std.specs.Prelude.{◌≡◌, ℕ, ◌+◌, ◌<◌, ◌++◌, true, if◌then◌else◌, List, length, take, drop, Option, Some, None}
use Rattle.std.specs.List.{AllByRecursion, flat_map}
use Rattle.hive_model.specs.Bins.{Cell, Bin, cell_bytes, IsCell, in_cells, cell_at}
use Rattle.hive_cells.specs.Reading.{cells_in, or_none}

-- the payload of an allocated cell
abbrev pub allocated_payload : Option Cell → Option (List ℕ)
allocated_payload None = None
allocated_payload (Some c) = if c.allocated then Some c.payload else None

-- the payload of the allocated cell that begins at an offset
abbrev pub held_at : List Bin → ℕ → Option (List ℕ)
held_at bins o = allocated_payload (cell_at bins o)

-- the same among cells that begin at a place
abbrev pub held_among : ℕ → ℕ → List Cell → Option (List ℕ)
held_among o at cells = allocated_payload (in_cells o at cells)

-- the cells that fill a text
unfoldable pub run_cells : List ℕ → List Cell
run_cells text = or_none (cells_in (length text) (length text) 0 text)

-- a cell is allocated
abbrev pub IsAllocated : Cell → Type 0
IsAllocated c = c.allocated ≡ true

-- the text is that of some allocated cells, in sequence
pub record IsRun (text : List ℕ) : Type 0 where
  pub some : 0 < length text
  pub sound : AllByRecursion IsCell (run_cells text)
  pub allocated : AllByRecursion IsAllocated (run_cells text)
  pub spelled : text ≡ flat_map cell_bytes (run_cells text)

-- a text in which a part is written over what stands from a place on
abbrev pub patched : ℕ → List ℕ → List ℕ → List ℕ
patched from part text = take from text ++ (part ++ drop (from + length part) text)

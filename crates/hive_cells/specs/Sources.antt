-- The cells of a heap, read in a version.
use Rattle.hive_model.specs.Bins.{Cells, look_up}
use Rattle.hive_cells.specs.declared.source.Source.{Source}

-- the cells that a walk, a search or a lookup reads from
abbrev pub cells_of : Source → Cells
cells_of source = look_up source.version source.heap.now

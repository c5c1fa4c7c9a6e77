use Rattle.std.proofs.Common.{◌≡◌, map, take}
use Rattle.key_index.specs.Lists.{name_in}
use Rattle.hive_cells.specs.Sources.{cells_of}
use Rattle.hive_look.proofs.children.names_at.Given as goal

abbrev pub invariant-loop-at : goal.invariant-loop-at
invariant-loop-at l = l.names ≡ map (name_in (cells_of l.cells)) (take l.at-index l.offsets)

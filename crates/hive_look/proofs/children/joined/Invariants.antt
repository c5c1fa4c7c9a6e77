use Rattle.std.proofs.Common.{◌≡◌, take}
use Rattle.key_index.specs.Lists.{offsets_in_lists}
use Rattle.hive_cells.specs.Sources.{cells_of}
use Rattle.hive_look.proofs.children.joined.Given as goal

abbrev pub invariant-loop-at : goal.invariant-loop-at
invariant-loop-at l = l.all.items ≡ offsets_in_lists (cells_of l.cells) (take l.at-index l.lists)

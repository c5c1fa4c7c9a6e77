use Rattle.std.proofs.Common.{length}
use Rattle.hive_cells.specs.Sources.{cells_of}
use Rattle.hive_edit.proofs.HoldingLemmas.{SameLeft}
use Rattle.hive_edit.proofs.holding.segments_are.Given as goal

abbrev pub invariant-segments : goal.invariant-segments
invariant-segments l = SameLeft (cells_of l.cells) l.size l.left l.offsets l.rest l.bytes l.want

abbrev pub decreases-segments : goal.decreases-segments
decreases-segments l = length l.rest

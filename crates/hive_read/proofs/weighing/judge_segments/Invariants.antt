use Rattle.std.proofs.Common.{length}
use Rattle.hive_cells.specs.Sources.{cells_of}
use Rattle.hive_read.proofs.WeighingLemmas.{SegmentsSoFar}
use Rattle.hive_read.proofs.weighing.judge_segments.Given as goal

abbrev pub invariant-segments : goal.invariant-segments
invariant-segments l = SegmentsSoFar (cells_of l.cells) l.size l.offsets l.left l.rest l.used l.fn.used

abbrev pub decreases-segments : goal.decreases-segments
decreases-segments l = length l.rest

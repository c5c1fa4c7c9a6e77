use Rattle.std.proofs.Common.{length}
use Rattle.hive_cells.specs.Sources.{cells_of}
use Rattle.hive_read.proofs.WeighingLemmas.{ValuesSoFar}
use Rattle.hive_read.proofs.weighing.judge_in_turn.Given as goal

abbrev pub invariant-values : goal.invariant-values
invariant-values l = ValuesSoFar (cells_of l.cells) l.offsets l.rest l.taken l.total l.used l.fn.used

abbrev pub decreases-values : goal.decreases-values
decreases-values l = length l.rest

use Rattle.std.proofs.Common.{◌+◌, ◌*◌, length}
use Rattle.hive_cells.specs.Sources.{cells_of}
use Rattle.hive_read.proofs.JudgingLemmas.{KeysSoFar}
use Rattle.hive_read.proofs.judging.+judged.Given as goal

abbrev pub decreases-judge_key : goal.decreases-judge_key
decreases-judge_key l = 4 * l.left

abbrev pub decreases-judge_in_turn : goal.decreases-judge_in_turn
decreases-judge_in_turn l = 4 * l.left + 1

abbrev pub decreases-judge_children : goal.decreases-judge_children
decreases-judge_children l = 4 * l.left + 2

abbrev pub decreases-judge_below : goal.decreases-judge_below
decreases-judge_below l = 4 * l.left + 3

abbrev pub invariant-judge_in_turn-children : goal.invariant-judge_in_turn-children
invariant-judge_in_turn-children l =
    KeysSoFar (cells_of l.cells) l.left l.shared.bytes.now l.offsets l.rest l.taken l.total l.used l.fn.used

abbrev pub decreases-judge_in_turn-children : goal.decreases-judge_in_turn-children
decreases-judge_in_turn-children l = length l.rest

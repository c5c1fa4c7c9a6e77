use Rattle.std.proofs.Common.{◌+◌, ◌*◌, not}
use Rattle.std.specs.Prelude.{count_by, vec_len}
use Rattle.wait_cycles.specs.Classes.{which}
use Rattle.wait_cycles.proofs.WalkLemmas.{IsWalking}
use Rattle.wait_cycles.proofs.walks.walk.Given as goal

abbrev pub invariant-work : goal.invariant-work
invariant-work l = IsWalking l.rows l.start (which l.key l.keys) l.fn.numbers.items l.numbers.items l.work.items

abbrev pub decreases-work : goal.decreases-work
decreases-work l = 2 * count_by not (which l.start l.numbers.items) + vec_len l.work

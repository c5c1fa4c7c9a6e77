use Rattle.std.specs.Prelude.{vec_len}
use Rattle.wait_cycles.specs.Working.{to_do}
use Rattle.wait_cycles.proofs.order.leave_all.Given as goal

abbrev pub decreases-path : goal.decreases-path
decreases-path l = to_do vec_len l.rest.items l.seen.items l.path.items

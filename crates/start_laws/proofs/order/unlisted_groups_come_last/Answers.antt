use Rattle.std.proofs.Common.{refl}
use Rattle.start_laws.specs.Written.{report}
use Rattle.start_laws.proofs.order.unlisted_groups_come_last.Goals as goal

pub returns : goal.returns
unfolding report
returns c = refl

use Rattle.std.proofs.Common.{refl}
use Rattle.start_laws.specs.Written.{report}
use Rattle.start_laws.proofs.waiting.a_cycle_is_unmet.Goals as goal

pub returns : goal.returns
unfolding report
returns c = refl

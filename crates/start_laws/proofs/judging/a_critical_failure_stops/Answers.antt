use Rattle.std.proofs.Common.{refl}
use Rattle.start_laws.specs.Written.{report}
use Rattle.start_laws.proofs.judging.a_critical_failure_stops.Goals as goal

pub returns : goal.returns
unfolding report
returns c = refl

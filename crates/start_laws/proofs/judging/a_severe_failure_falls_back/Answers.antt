use Rattle.std.proofs.Common.{refl}
use Rattle.start_laws.specs.Written.{report}
use Rattle.start_laws.proofs.judging.a_severe_failure_falls_back.Goals as goal

pub returns : goal.returns
unfolding report
returns c = refl

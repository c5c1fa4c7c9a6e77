use Rattle.std.proofs.Common.{refl}
use Rattle.start_laws.specs.Written.{report}
use Rattle.start_laws.proofs.waiting.an_empty_group_is_not_met.Goals as goal

pub returns-clause-logged : goal.returns-clause-logged
unfolding report
returns-clause-logged c = refl

pub returns-clause-ignored : goal.returns-clause-ignored
unfolding report
returns-clause-ignored c = refl

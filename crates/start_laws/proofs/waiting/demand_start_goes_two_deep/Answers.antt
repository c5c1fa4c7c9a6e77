use Rattle.std.proofs.Common.{refl}
use Rattle.start_laws.specs.Written.{report}
use Rattle.start_laws.proofs.waiting.demand_start_goes_two_deep.Goals as goal

pub returns-clause-one_deep : goal.returns-clause-one_deep
unfolding report
returns-clause-one_deep c = refl

pub returns-clause-two_deep : goal.returns-clause-two_deep
unfolding report
returns-clause-two_deep c = refl

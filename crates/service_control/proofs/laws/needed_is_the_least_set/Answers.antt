use Rattle.service_control.proofs.NeededLemmas.{needed_has, needed_least}
use Rattle.service_control.proofs.laws.needed_is_the_least_set.Goals as goal

pub returns-clause-closed : goal.returns-clause-closed
returns-clause-closed c = needed_has

pub returns-clause-least : goal.returns-clause-least
returns-clause-least c = needed_least

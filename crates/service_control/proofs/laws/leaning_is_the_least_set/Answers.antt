use Rattle.service_control.proofs.LeaningLaws.{leaning_closed, leaning_least}
use Rattle.service_control.proofs.laws.leaning_is_the_least_set.Goals as goal

pub returns-clause-closed : goal.returns-clause-closed
returns-clause-closed c = leaning_closed

pub returns-clause-least : goal.returns-clause-least
returns-clause-least c = leaning_least

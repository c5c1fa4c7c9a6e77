use Rattle.nt_edge.proofs.Images.{crash_outside, now_outside}
use Rattle.nt_edge.proofs.laws.only_what_is_in_flight_changes.Goals as goal

pub returns-clause-left : goal.returns-clause-left
returns-clause-left c = λ p held left flight each crash. crash_outside p held flight left each crash

pub returns-clause-now : goal.returns-clause-now
returns-clause-now c = λ p held flight each. now_outside p held flight each

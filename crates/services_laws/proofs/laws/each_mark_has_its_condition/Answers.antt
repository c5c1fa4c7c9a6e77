use Rattle.services_laws.proofs.MarkedLemmas.{marks_stand, marks_depend}
use Rattle.services_laws.proofs.laws.each_mark_has_its_condition.Goals as goal

pub returns : goal.returns
returns c = record { stand = marks_stand; depend = marks_depend }

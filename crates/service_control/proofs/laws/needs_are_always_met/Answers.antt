use Rattle.service_control.proofs.MetLemmas.{always_met}
use Rattle.service_control.proofs.laws.needs_are_always_met.Goals as goal

pub returns : goal.returns
returns c = always_met

use Rattle.service_control.proofs.LeastLemmas.{a_least_start}
use Rattle.service_control.proofs.laws.a_start_is_least.Goals as goal

pub returns : goal.returns
returns c = a_least_start

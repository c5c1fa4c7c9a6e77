use Rattle.command_laws.proofs.PartLemmas.{stays}
use Rattle.command_laws.proofs.control_laws.order.who_is_not_stopped_stays.Goals as goal

pub returns : goal.returns
returns c = λ set commands name. stays set commands name

use Rattle.service_control.proofs.MetLemmas.{always_met}
use Rattle.command_laws.specs.control_laws.Called.{all_calls_by}
use Rattle.command_laws.proofs.control_laws.order.what_is_listed_has_its_needs.Goals as goal

pub returns : goal.returns
returns c = λ set commands. always_met set (all_calls_by commands)

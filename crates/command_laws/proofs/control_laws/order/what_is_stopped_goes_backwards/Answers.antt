use Rattle.service_control.specs.Leaning.{leaning_in}
use Rattle.service_control.proofs.MetLemmas.{always_met, stops_in_order}
use Rattle.command_laws.specs.control_laws.Called.{all_calls_by, control_behind}
use Rattle.command_laws.proofs.BackLemmas.{backwards}
use Rattle.command_laws.proofs.control_laws.order.what_is_stopped_goes_backwards.Goals as goal

pub returns : goal.returns
returns c = λ set commands name.
    backwards (leaning_in (control_behind set commands).running name)
    (stops_in_order (control_behind set commands).running name (always_met set (all_calls_by commands)))

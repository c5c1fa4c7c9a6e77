use Rattle.service_control.specs.Laws.{after_calls}
use Rattle.service_control.specs.First.{control_of}
use Rattle.service_control.proofs.MetLemmas.{always_met, stops_in_order}
use Rattle.service_control.proofs.laws.a_stop_goes_backwards.Goals as goal

pub returns : goal.returns
returns c = λ set calls name. stops_in_order (after_calls (control_of set) calls).running name (always_met set calls)

use Rattle.device_laws.proofs.StartedLemmas.{are_taken, three_demanded, taken_there, others_not}
use Rattle.device_laws.proofs.laws.a_start_takes_drivers_by_their_states.Goals as goal

pub returns : goal.returns
returns c = record { taken = are_taken; there = taken_there; demanded = three_demanded; others = others_not }

-- What a line adds.
use Rattle.std.proofs.Common.{◌≡◌, refl}
use Rattle.start_model.specs.Starter.{phase_line}
use Rattle.boot_phases.specs.boot_phases.Phases.{phase_in}
use Rattle.boot_phases.specs.declared.boot_phases.phase.Phase.{Phase}
use Rattle.boot_phases.specs.declared.boot_phases.phase.Phase.TheVariants.{Boot, System, Automatic, Done}
use Rattle.service_list.specs.declared.turns.Telling.{Telling}
use Rattle.service_list.specs.Turns.{turn_step}

pub phase_step : (t : Telling) (phase : Phase) → turn_step t (phase_line (phase_in phase)) ≡ record t { phase = phase }
phase_step t Boot = refl
phase_step t System = refl
phase_step t Automatic = refl
phase_step t Done = refl

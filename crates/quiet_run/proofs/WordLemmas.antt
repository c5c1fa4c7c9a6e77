-- Words there and back.
use Rattle.std.proofs.Common.{◌≡◌, refl}
use Rattle.boot_phases.specs.declared.boot_phases.phase.Phase.{Phase}
use Rattle.boot_phases.specs.declared.boot_phases.phase.Phase.TheVariants as phases
use Rattle.boot_phases.specs.boot_phases.Phases.{phase_in}
use Rattle.quiet_run.specs.Words.{phase_as}

pub phase_again : (p : Phase) → phase_as (phase_in p) ≡ p
phase_again phases.Boot = refl
phase_again phases.System = refl
phase_again phases.Automatic = refl
phase_again phases.Done = refl

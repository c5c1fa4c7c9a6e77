-- What a line of a boot adds.
use Rattle.std.proofs.Common.{◌≡◌, refl}
use Rattle.start_model.specs.Starter.{phase_line}
use Rattle.boot_phases.specs.boot_phases.Phases.{phase_in}
use Rattle.boot_phases.specs.declared.boot_phases.phase.Phase.{Phase}
use Rattle.boot_phases.specs.declared.boot_phases.phase.Phase.TheVariants.{Boot, System, Automatic, Done}
use Rattle.set_diff.specs.declared.boot.QuietBoot.{QuietBoot}
use Rattle.set_diff.specs.Boots.{boot_step}

pub phase_step : (b : QuietBoot) (phase : Phase) → boot_step b (phase_line (phase_in phase)) ≡ record b { phase = phase }
phase_step b Boot = refl
phase_step b System = refl
phase_step b Automatic = refl
phase_step b Done = refl

-- Which phase of the code is each phase of the book?
use Rattle.start_model.specs.Entries as entries
use Rattle.boot_phases.specs.declared.boot_phases.phase.Phase.{Phase}
use Rattle.boot_phases.specs.declared.boot_phases.phase.Phase.TheVariants as phases

abbrev pub phase_as : entries.Phase → Phase
phase_as entries.Boot = phases.Boot
phase_as entries.System = phases.System
phase_as entries.Automatic = phases.Automatic
phase_as entries.Done = phases.Done

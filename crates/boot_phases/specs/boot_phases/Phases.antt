-- The phases of the code as those of the book.
use Rattle.start_model.specs.Entries as book
use Rattle.boot_phases.specs.declared.boot_phases.phase.Phase.{Phase}
use Rattle.boot_phases.specs.declared.boot_phases.phase.Phase.TheVariants as code

abbrev pub phase_in : Phase → book.Phase
phase_in code.Boot = book.Boot
phase_in code.System = book.System
phase_in code.Automatic = book.Automatic
phase_in code.Done = book.Done

use Rattle.run_laws.proofs.StillLemmas.{run-may, event-closed, run-closed}
use Rattle.run_laws.proofs.run_laws.still.with_nothing_more_the_disk_may_load_as_before.Goals as goal

pub returns-clause-may : goal.returns-clause-may
returns-clause-may c = λ choice script m i closed may. run-may i choice script m closed may

pub returns-clause-event : goal.returns-clause-event
returns-clause-event c = λ choice e m wakes outcomes after left over closed is. event-closed choice e m closed wakes
    outcomes after left over is

pub returns-clause-run : goal.returns-clause-run
returns-clause-run c = λ choice script m wakes outcomes last left over closed is. run-closed choice script m closed
    wakes outcomes last left over is

use Rattle.run_laws.proofs.QuietLemmas.{run_of-quiet}
use Rattle.run_laws.proofs.run_laws.quiet.without_stops_the_run_is_the_quiet_one.Goals as goal

pub returns-clause-lines : goal.returns-clause-lines
returns-clause-lines c = λ choice script placed wakes outcomes last left over is fits all.
    (run_of-quiet choice script placed wakes outcomes last left over is fits all).lines

pub returns-clause-state : goal.returns-clause-state
returns-clause-state c = λ choice script placed wakes outcomes last left over is fits all.
    (run_of-quiet choice script placed wakes outcomes last left over is fits all).state

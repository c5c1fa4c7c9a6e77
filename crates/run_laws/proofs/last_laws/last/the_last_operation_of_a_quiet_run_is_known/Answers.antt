use Rattle.run_laws.proofs.LastLemmas.{run_of-none, run_of-last}
use Rattle.run_laws.proofs.last_laws.last.the_last_operation_of_a_quiet_run_is_known.Goals as goal

pub returns-clause-none : goal.returns-clause-none
returns-clause-none c = λ choice script placed wakes last is fits. run_of-none choice script placed wakes last is fits

pub returns-clause-some : goal.returns-clause-some
returns-clause-some c = λ choice script placed wakes first final last is fits all.
    run_of-last choice script placed wakes first final last is fits all

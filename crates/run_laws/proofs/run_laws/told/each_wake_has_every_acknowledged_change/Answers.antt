use Rattle.run_laws.proofs.ToldLemmas.{run-told, run-held}
use Rattle.run_laws.proofs.run_laws.told.each_wake_has_every_acknowledged_change.Goals as goal

pub returns-clause-settled : goal.returns-clause-settled
returns-clause-settled c =
    λ choice script placed wakes outcomes before after p is.
    (run-told choice script placed wakes outcomes before after p is).held

pub returns-clause-other : goal.returns-clause-other
returns-clause-other c = λ choice script placed wakes outcomes before after p is.
    (run-told choice script placed wakes outcomes before after p is).by_stop

pub returns-clause-end : goal.returns-clause-end
returns-clause-end c = λ choice script placed wakes outcomes. run-held choice script placed wakes outcomes

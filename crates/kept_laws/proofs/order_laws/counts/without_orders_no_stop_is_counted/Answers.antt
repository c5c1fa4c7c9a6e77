use Rattle.kept_laws.proofs.UnorderedLemmas.{run_of-uncounted}
use Rattle.kept_laws.proofs.order_laws.counts.without_orders_no_stop_is_counted.Goals as goal

pub returns-clause-cuts : goal.returns-clause-cuts
returns-clause-cuts
    c = λ choice script placed wakes outcomes notes added before after none front grew armings calls keeps.
    (run_of-uncounted choice script placed wakes outcomes notes added before after none front grew armings calls
    keeps).cuts

pub returns-clause-faults : goal.returns-clause-faults
returns-clause-faults c =
    λ choice script placed wakes outcomes notes added before after none front grew armings calls keeps.
    (run_of-uncounted choice script placed wakes outcomes notes added before after none front grew armings calls
    keeps).faults

use Rattle.kept_laws.proofs.UnorderedLemmas.{no_orders, no_cuts, run_of-notes}
use Rattle.kept_laws.proofs.order_laws.scripts.a_script_without_orders_notes_none.Goals as goal

pub returns-clause-orders : goal.returns-clause-orders
returns-clause-orders c =
    λ choice script placed wakes outcomes none. no_orders _ (run_of-notes choice script placed wakes outcomes none)

pub returns-clause-cuts : goal.returns-clause-cuts
returns-clause-cuts c = λ choice script placed wakes outcomes none n. no_cuts _ n
    (run_of-notes choice script placed wakes outcomes none)

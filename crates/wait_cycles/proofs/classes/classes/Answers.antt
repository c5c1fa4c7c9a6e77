use Rattle.wait_cycles.proofs.ClassLemmas.{classes_none}
use Rattle.wait_cycles.proofs.classes.classes.Goals as goal

pub order-init : goal.order-init
order-init c = classes_none c.args.rows.now _ _ c.in_ok-before.ensures c.in_ok-classes.ensures

use Rattle.check_laws.proofs.OrderLemmas.{order_adds}
use Rattle.check_laws.proofs.laws.the_order_only_adds_lines.Goals as goal

pub returns : goal.returns
returns c = record { adds = order_adds }

use Rattle.hive_laws.proofs.AskedInOrder.{asked_in_order}
use Rattle.hive_laws.proofs.hive_laws.looking.recovery_asks_in_order.Goals as goal

pub returns : goal.returns
returns c = asked_in_order

use Rattle.hive_laws.proofs.AskedOnce.{asked_once}
use Rattle.hive_laws.proofs.hive_laws.looking.recovery_asks_for_each_sector_once.Goals as goal

pub returns : goal.returns
returns c = asked_once

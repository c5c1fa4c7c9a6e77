use Rattle.hive_laws.proofs.ReadBack.{carried_recovered}
use Rattle.hive_laws.proofs.hive_laws.recovery.what_is_carried_is_recovered.Goals as goal

pub returns : goal.returns
returns c = carried_recovered

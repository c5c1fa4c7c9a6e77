use Rattle.hive_laws.proofs.Alike.{recovered_alike}
use Rattle.hive_laws.proofs.hive_laws.looking.recovery_looks_nowhere_else.Goals as goal

pub returns : goal.returns
returns c = λ image other same. recovered_alike image other same

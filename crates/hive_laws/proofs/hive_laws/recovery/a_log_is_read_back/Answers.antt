use Rattle.hive_laws.proofs.ReadBack.{log_read_back}
use Rattle.hive_laws.proofs.hive_laws.recovery.a_log_is_read_back.Goals as goal

pub returns : goal.returns
returns c = λ image opened closed bits bins closing is. log_read_back image closed bits bins opened closing is

use Rattle.std.proofs.Common.{arith}
use Rattle.hive_pack.proofs.security.write_security.Goals as goal

pub overflow_add-form : goal.overflow_add-form
overflow_add-form c = omega (arith, c.sharers_of_all.ensures, c.requires.few)

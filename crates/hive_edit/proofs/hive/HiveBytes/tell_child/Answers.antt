use Rattle.std.proofs.Common.{arith}
use Rattle.hive_edit.proofs.hive.HiveBytes.tell_child.Goals as goal

pub wide_len-wide-requires : goal.wide_len-wide-requires
wide_len-wide-requires c = omega (arith, c.requires)

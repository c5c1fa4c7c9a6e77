use Rattle.std.proofs.Common.{arith}
use Rattle.hive_pack.proofs.Rows.{big_most}
use Rattle.hive_pack.proofs.sizes.data_len.Goals as goal

pub returns-then-is_big-clause-few : goal.returns-then-is_big-clause-few
returns-then-is_big-clause-few c = omega (arith, c.big_len.ensures, big_most c.args.n c.requires)

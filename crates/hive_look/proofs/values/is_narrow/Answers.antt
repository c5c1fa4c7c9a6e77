use Rattle.std.proofs.Common.{arith}
use Rattle.hive_look.proofs.ItemLemmas.{value_long}
use Rattle.hive_look.proofs.values.is_narrow.Goals as goal

pub u16_at-flags-requires : goal.u16_at-flags-requires
u16_at-flags-requires c = omega (arith, value_long c.args.value.now c.requires)

use Rattle.std.proofs.Common.{arith}
use Rattle.key_index.proofs.Entered.{has_four}
use Rattle.hive_look.proofs.children.is_list_of_lists.Goals as goal

pub u16_at-requires : goal.u16_at-requires
u16_at-requires c = omega (arith, has_four c.args.list.now c.requires)

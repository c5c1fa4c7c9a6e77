use Rattle.std.proofs.Common.{arith}
use Rattle.key_index.proofs.Entered.{has_four}
use Rattle.key_index.proofs.entries.entry_len.Goals as goal

pub u16_at-sign-requires : goal.u16_at-sign-requires
u16_at-sign-requires c = omega (arith, has_four c.args.list.now c.requires)

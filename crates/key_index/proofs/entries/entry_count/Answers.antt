use Rattle.std.proofs.Common.{sym, ◌∙◌, arith}
use Rattle.key_index.proofs.Entered.{has_four, has_count}
use Rattle.key_index.proofs.entries.entry_count.Goals as goal

pub u16_at-requires : goal.u16_at-requires
u16_at-requires c = omega (arith, has_four c.args.list.now c.requires)

pub returns : goal.returns
returns c = c.from.ensures ∙ c.u16_at.ensures ∙ sym (has_count c.args.list.now c.requires)

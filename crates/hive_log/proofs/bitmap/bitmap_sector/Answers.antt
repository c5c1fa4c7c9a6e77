use Rattle.std.proofs.Common.{arith, rules}
use Rattle.hive_log.proofs.Text.{text_sector}
use Rattle.hive_log.proofs.bitmap.bitmap_sector.Goals as goal

pub returns : goal.returns
returns c = text_sector c.args.bitmap.now c.args.size c.args.k c.loop-j.into (λ k. search (rules, c.type_inv.bitmap k))
    c.loop-j.invariant.long c.requires.bits c.requires.inside (λ m below. c.loop-j.invariant.each m (omega arith))

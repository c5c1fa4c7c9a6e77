use Rattle.std.proofs.Common.{sym, ◌∙◌, arith}
use Rattle.hive_look.proofs.MeasureLemmas.{narrow_len, low_len, high_len}
use Rattle.hive_look.proofs.measure.stored_len.Goals as goal

pub returns-then-narrow-clause-exact : goal.returns-then-narrow-clause-exact
returns-then-narrow-clause-exact c =
    narrow_len c.args.narrow c.args.stored.now c.if-narrow.true (λ k. omega (arith, c.type_inv.stored k))

pub returns-then-is_low-clause-exact : goal.returns-then-is_low-clause-exact
returns-then-is_low-clause-exact c =
    low_len c.args.narrow c.args.stored.now c.if-narrow.false (c.requires.whole c.if-narrow.false)
    (sym c.is_low.ensures ∙ c.if-is_low.true)

pub returns-else-is_low-clause-exact : goal.returns-else-is_low-clause-exact
returns-else-is_low-clause-exact c =
    high_len c.args.narrow c.args.stored.now c.if-narrow.false (c.requires.whole c.if-narrow.false)
    (sym c.is_low.ensures ∙ c.if-is_low.false)

use Rattle.std.proofs.Common.{arith}
use Rattle.reg_text.proofs.DigitLemmas.{hex_at, few_digits}
use Rattle.reg_text.proofs.digits.hex_number.Goals as goal

pub overflow_mul-value : goal.overflow_mul-value
overflow_mul-value c =
    let p = few_digits c.loop-unit.unit-index _ c.loop-unit-test.true c.requires.short in
    omega (arith, p, c.loop-unit.invariant.small)

pub overflow_add-value : goal.overflow_add-value
overflow_add-value c =
    let p = few_digits c.loop-unit.unit-index _ c.loop-unit-test.true c.requires.short in
    let d = hex_at c.args.text.now c.loop-unit.unit-index c.requires.all c.loop-unit-test.true in
    omega (arith, p, d, c.digit.ensures, c.from.ensures, c.loop-unit.invariant.small)

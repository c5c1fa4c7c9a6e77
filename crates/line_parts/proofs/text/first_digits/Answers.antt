use Rattle.std.proofs.Common.{arith, length-take}
use Rattle.line_parts.proofs.text.first_digits.Goals as goal

pub slice_bounds-result-end : goal.slice_bounds-result-end
slice_bounds-result-end c = omega (arith, length-take 64 c.args.digits.now, c.requires)

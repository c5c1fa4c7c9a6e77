use Rattle.std.proofs.Common.{arith, length-take}
use Rattle.diff_text.proofs.text.first_of.Goals as goal

pub slice_bounds-result-end : goal.slice_bounds-result-end
slice_bounds-result-end c = omega (arith, length-take 32 c.args.bytes.now, c.requires)

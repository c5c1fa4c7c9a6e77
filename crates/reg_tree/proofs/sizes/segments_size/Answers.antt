use Rattle.std.proofs.Common.{arith}
use Rattle.reg_tree.proofs.Segments.{full_segments, rest_segments}
use Rattle.reg_tree.proofs.sizes.segments_size.Goals as goal

pub returns-then-rest-eq0 : goal.returns-then-rest-eq0
returns-then-rest-eq0 c =
    omega (arith, c.saturating_mul-full.ensures, full_segments c.args.len (omega (arith, c.if-rest-eq0.true)))

pub returns-else-rest-eq0 : goal.returns-else-rest-eq0
returns-else-rest-eq0 c =
    let cells = rest_segments c.args.len (omega (arith, c.if-rest-eq0.false)) in
    omega (arith, c.saturating_mul-full.ensures, c.cell_size.ensures, c.saturating_add.ensures, cells)

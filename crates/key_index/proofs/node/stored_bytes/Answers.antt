use Rattle.std.proofs.Common.{arith}
use Rattle.key_index.proofs.Nodes.{is_long}
use Rattle.key_index.proofs.node.stored_bytes.Goals as goal

pub u16_at-requires : goal.u16_at-requires
u16_at-requires c = omega (arith, is_long c.args.node.now c.requires)

pub slice_bounds-result-end : goal.slice_bounds-result-end
slice_bounds-result-end c =
    let long = is_long c.args.node.now c.requires in
    grind (arith, long)

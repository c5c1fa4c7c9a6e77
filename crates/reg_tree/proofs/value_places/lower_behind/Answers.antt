use Rattle.std.proofs.Common.{◌<◌, length, arith}
use Rattle.std.proofs.lemmas.List.Edits.{map_over_more}
use Rattle.reg_tree.specs.Order.{lowered}
use Rattle.reg_tree.proofs.value_places.lower_behind.Goals as goal

pub loop-k-preserved : goal.loop-k-preserved
loop-k-preserved c =
    let within : c.loop-k.k < length c.args.order.now.items = omega (arith, c.loop-k-test.true, c.len-k-end.ensures) in
    rw c.lowered.ensures
    (map_over_more (lowered c.args.at)
    c.args.order.now.items c.loop-k.order.items c.loop-k.k c.index.result.now within c.loop-k.invariant
    c.index.ensures)

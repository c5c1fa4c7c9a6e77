use Rattle.std.proofs.Common.{◌<◌, length, arith, length-set}
use Rattle.hive_edit.proofs.OwnLemmas.{written_below, written_above}
use Rattle.hive_edit.proofs.give.own_number.Goals as goal

pub loop-i-preserved : goal.loop-i-preserved
loop-i-preserved c =
    let i = c.loop-i.invariant in
    let lt : c.loop-i.i < length c.loop-i.own = omega (arith, i.sized) in
    record {
      sized = rw length-set i.sized;
      below = written_below c.loop-i.own c.args.bytes.now c.loop-i.i lt i.below;
      above = written_above c.loop-i.own c.loop-i.i _ i.above;
    }

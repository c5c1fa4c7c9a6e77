use Rattle.std.proofs.Common.{arith, length, ◌/◌}
use Rattle.hive_model.specs.Log.{dirty}
use Rattle.hive_log.proofs.Appending.{sized}
use Rattle.hive_log.proofs.Dirty.{bits_there}
use Rattle.hive_log.proofs.marking.mark_dirty.Goals as goal

pub returns : goal.returns
returns c i below =
    let whole = sized (length c.args.new.now) c.requires in
    let done = c.loop-k.invariant in
    bits_there (dirty c.args.old.now c.args.new.now) (length c.args.new.now / 4096) c.loop-k.into
    (omega (arith, whole.high)) (λ j under. done.each j (omega arith)) i (omega (arith, whole.high, whole.pages))

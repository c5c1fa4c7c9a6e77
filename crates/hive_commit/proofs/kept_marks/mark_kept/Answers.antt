use Rattle.std.proofs.Common.{arith, length, ◌/◌}
use Rattle.hive_model.specs.Log.{dirty}
use Rattle.hive_log.proofs.Appending.{sized}
use Rattle.hive_log.proofs.Dirty.{bits_there}
use Rattle.cell_tables.specs.saved_pages.Overlay.{before}
use Rattle.hive_commit.proofs.kept_marks.mark_kept.Goals as goal

pub returns : goal.returns
returns c i below =
    let whole = sized (length c.args.new.now) c.requires.sized in
    let done = c.loop-k.invariant in
    bits_there (dirty (before c.args.pages.now c.args.new.now) c.args.new.now) (length c.args.new.now / 4096) c.loop-k.into
    (omega (arith, whole.high, done.long)) (λ j under. done.each j (omega arith)) i
    (omega (arith, whole.high, whole.pages))

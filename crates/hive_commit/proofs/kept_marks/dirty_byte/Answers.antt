use Rattle.hive_model.specs.Log.{dirty}
use Rattle.hive_log.proofs.Dirty.{eight}
use Rattle.hive_commit.proofs.kept_marks.dirty_byte.Goals as goal

pub returns : goal.returns
returns c =
    eight (dirty c.args.old.now c.args.new.now)
    0 _ _ _ _ _ _ _ _ c.dirty_bit.ensures.value c.dirty_bit-2.ensures.value c.dirty_bit-3.ensures.value
    c.dirty_bit-4.ensures.value c.dirty_bit-5.ensures.value c.dirty_bit-6.ensures.value
    c.dirty_bit-7.ensures.value c.dirty_bit-8.ensures.value

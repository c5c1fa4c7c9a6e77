use Rattle.std.proofs.Common.{refl, add-one}
use Rattle.hive_model.specs.Base.{mixed_words}
use Rattle.regf_base.proofs.sum.mixed.Goals as goal

pub loop-word-init : goal.loop-word-init
unfolding mixed_words
loop-word-init c = refl

pub loop-word-preserved : goal.loop-word-preserved
unfolding mixed_words
loop-word-preserved c = rw (add-one, c.u32_at-mixed.ensures, c.loop-word.invariant)

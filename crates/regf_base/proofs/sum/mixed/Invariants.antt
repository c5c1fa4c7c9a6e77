use Rattle.std.proofs.Common.{◌≡◌}
use Rattle.hive_model.specs.Base.{mixed_words}
use Rattle.regf_base.proofs.sum.mixed.Given as goal

abbrev pub invariant-loop-word : goal.invariant-loop-word
invariant-loop-word l = l.mixed ≡ mixed_words l.word l.sector

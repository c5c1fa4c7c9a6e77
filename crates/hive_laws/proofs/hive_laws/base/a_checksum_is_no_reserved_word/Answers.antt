use Rattle.std.proofs.Common.{◌≡◌, ℕ, refl, arith}
use Rattle.hive_model.specs.Base.{mixed_words, moved_off}
use Rattle.hive_laws.proofs.hive_laws.base.a_checksum_is_no_reserved_word.Goals as goal

no_zero : (n : ℕ) → moved_off n ≡ 0 → ⊥
no_zero n h = grind arith

no_greatest : (n : ℕ) → moved_off n ≡ 0xFFFFFFFF → ⊥
no_greatest n h = grind arith

pub returns-clause-no_zero : goal.returns-clause-no_zero
returns-clause-no_zero c = λ sector. no_zero (mixed_words 127 sector)

pub returns-clause-no_greatest : goal.returns-clause-no_greatest
returns-clause-no_greatest c = λ sector. no_greatest (mixed_words 127 sector)

pub returns-clause-zeros : goal.returns-clause-zeros
unfolding mixed_words
returns-clause-zeros c = refl

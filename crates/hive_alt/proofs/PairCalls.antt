-- The calls of a repair.
use Rattle.std.proofs.Common.{◌≡◌, ◌<◌, ◌*◌, ◌/◌, ℕ, true, false, List, length, refl, arith}
use Rattle.hive_model.specs.Base.{Base}
use Rattle.hive_model.specs.Image.{Primary, Log}
use Rattle.hive_model.specs.Recovery.{bit}
use Rattle.hive_alt.specs.Calls.{copy_closing_calls, rewrite_calls, mend_calls}
use Rattle.hive_alt.specs.Copies.{unfinished_of}
use Rattle.hive_alt.proofs.CopyCalls.{closing_same, rewrite_same}

-- a repair: the bit of each sector is on
module _ (base : Base) (bins bitmap : List ℕ)
    (marks : (i : ℕ) → 512 * i < length bins → bit bitmap i ≡ true) where
  every : (i : ℕ) → i < length bins / 512 → bit bitmap i ≡ true
  every i small = marks i (omega (arith, small))

  pub mend_first_is : copy_closing_calls Primary base (bit bitmap) bins ≡ mend_calls true base bins
  mend_first_is = closing_same Primary (bit bitmap) (λ i. true) bins every base

  pub mend_second_is : (opened : Base) → opened ≡ unfinished_of base
      → rewrite_calls Log opened base (bit bitmap) bins ≡ mend_calls false base bins
  mend_second_is opened is =
      rewrite_same Log (bit bitmap) (λ i. true) bins every opened base (unfinished_of base) base is refl

-- Bits that are off.
use Rattle.std.proofs.Common.{◌≡◌, ℕ, zero, suc, ◌+◌, ◌/◌, ◌%◌, ◌^◌, ◌<◌, ◌≤◌, ◌==◌, Bool, false, List, get_or, ap, ◌∙◌, arith}
use Rattle.std.proofs.lemmas.Nat.Bits.{bit_at-zero}
use Rattle.hive_model.specs.Recovery.{bit, rank}
use Rattle.hive_log.proofs.Ranks.{rank_off}

-- a byte without a bit
pub blank : (bitmap : List ℕ) (i j : ℕ) → i % 8 ≡ 0 → get_or bitmap (i / 8) 0 ≡ 0 → i ≤ j → j < i + 8
    → bit bitmap j ≡ false
unfolding bit
blank bitmap i j whole none from below =
    let same : j / 8 ≡ i / 8 = omega (arith, whole, from, below) in
    ap (λ (k : ℕ). get_or bitmap k 0 / 2 ^ (j % 8) % 2 == 1) same
    ∙ ap (λ (b : ℕ). b / 2 ^ (j % 8) % 2 == 1) none
    ∙ ap (λ (b : ℕ). b == 1) (bit_at-zero (j % 8))

-- bits that are off do not count
pub rank_passed : (bits : ℕ → Bool) (i n : ℕ) → ((j : ℕ) → i ≤ j → j < i + n → bits j ≡ false)
    → rank bits (i + n) ≡ rank bits i
rank_passed bits i zero off = ap (rank bits) (omega arith)
rank_passed bits i (suc n) off =
    let next : i + suc n ≡ i + n + 1 = omega arith in
    ap (rank bits) next ∙ rank_off bits (i + n) (off (i + n) (omega arith) (omega arith))
    ∙ rank_passed bits i n (λ j from below. off j from (omega (arith, below)))

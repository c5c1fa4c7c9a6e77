-- How many bits are on below a place.
use Rattle.std.proofs.Common.{◌≡◌, ◌⊎◌, ◌<◌, ◌+◌, ℕ, zero, suc, Bool, true, false, refl, sym, ◌∙◌, ap, ⊎_elim, arith, add-one}
use Rattle.hive_model.specs.Recovery.{one_if, rank}

pub rank_on : (bits : ℕ → Bool) (i : ℕ) → bits i ≡ true → rank bits (i + 1) ≡ rank bits i + 1
rank_on bits i on = ap (rank bits) (add-one i) ∙ ap (λ b. rank bits i + one_if b) on

pub rank_off : (bits : ℕ → Bool) (i : ℕ) → bits i ≡ false → rank bits (i + 1) ≡ rank bits i
rank_off bits i off = ap (rank bits) (add-one i) ∙ ap (λ b. rank bits i + one_if b) off ∙ omega arith

pub split : (j i : ℕ) → j < suc i → (j < i) ⊎ (j ≡ i)
split j i below = grind arith

-- a bit that is on below i counts there
pub rank_below : (bits : ℕ → Bool) (i j : ℕ) → j < i → bits j ≡ true → rank bits j < rank bits i
rank_below bits zero j below on = absurd (omega arith)
rank_below bits (suc i) j below on = ⊎_elim
    (λ less. omega (arith, rank_below bits i j less on))
    (λ same.
    let here : rank bits (i + 1) ≡ rank bits i + 1 = rank_on bits i (sym (ap bits same) ∙ on) in
    let next : rank bits (suc i) ≡ rank bits (i + 1) = sym (ap (rank bits) (add-one i)) in
    let at : rank bits j ≡ rank bits i = ap (rank bits) same in omega arith)
    (split j i below)

-- only the bits below count
pub rank_same : (a b : ℕ → Bool) (i : ℕ) → ((j : ℕ) → j < i → a j ≡ b j) → rank a i ≡ rank b i
rank_same a b zero each = refl
rank_same a b (suc i) each =
    ap (λ r. r + one_if (a i)) (rank_same a b i (λ j below. each j (omega arith)))
    ∙ ap (λ t. rank b i + one_if t) (each i (omega arith))

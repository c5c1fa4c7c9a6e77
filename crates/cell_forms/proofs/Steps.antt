-- Numbers at equal steps.
use Rattle.std.proofs.Common.{◌≡◌, ℕ, zero, suc, ◌+◌, ◌-◌, ◌*◌, ◌<◌, ◌≤◌, List, [], ◌∷◌, ◌++◌, length, drop, refl, sym, ap, ◌∙◌, append_assoc, arith}
use Rattle.std.proofs.lemmas.List.{length-drop}
use Rattle.nt_bytes.specs.Fields.{u32_in}
use Rattle.hive_model.specs.Lists.{numbers_in}

pub numbers_more : (step left : ℕ) (rest : List ℕ) → 0 < left
    → numbers_in step left rest ≡ u32_in rest 0 ∷ numbers_in step (left - 1) (drop step rest)
numbers_more step zero rest lt = absurd (omega (arith, lt))
numbers_more step (suc left) rest lt =
    let e : suc left - 1 ≡ left = omega arith in
    rw e refl

-- one more was read
pub numbers_next : (step left x : ℕ) (rest all more whole : List ℕ) → 0 < left → x ≡ u32_in rest 0
    → more ≡ all ++ x ∷ [] → all ++ numbers_in step left rest ≡ whole
    → more ++ numbers_in step (left - 1) (drop step rest) ≡ whole
numbers_next step left x rest all more whole lt is pushed far =
    ap (λ (xs : List ℕ). xs ++ numbers_in step (left - 1) (drop step rest)) pushed
    ∙ append_assoc all (x ∷ []) (numbers_in step (left - 1) (drop step rest))
    ∙ ap (λ (k : ℕ). all ++ k ∷ numbers_in step (left - 1) (drop step rest)) is
    ∙ ap (λ (xs : List ℕ). all ++ xs) (sym (numbers_more step left rest lt))
    ∙ far

room_at : (step k : ℕ) (rest : List ℕ) → step * (k + 1) ≤ length rest → step * k ≤ length (drop step rest)
room_at step k rest h = omega (arith, h, length-drop step rest)

-- the rest is long enough for what remains
pub room_next : (step left : ℕ) (rest : List ℕ) → 0 < left → step * left ≤ length rest
    → step * (left - 1) ≤ length (drop step rest)
room_next step left rest lt h =
    let e : left - 1 + 1 ≡ left = omega arith in
    room_at step (left - 1) rest (rw e h)

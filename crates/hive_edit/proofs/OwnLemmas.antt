-- A number of up to four bytes, and the fields of a value, as they are made.
use Rattle.std.proofs.lemmas.Bool.{eqb-true, eqb-false}
use Rattle.std.proofs.Common.{◌≡◌, ◌≢◌, ◌<◌, ◌≤◌, ℕ, ◌+◌, Bool, true, false, eqb, List, length, get_or, set, refl, sym, subst, arith, get_or-set_same, get_or-set_other}

-- one more byte written
pub written_below : (own bytes : List ℕ) (i : ℕ) → i < length own
    → ((k : ℕ) → k < i → get_or own k 0 ≡ get_or bytes k 0) → (k : ℕ) → k < i + 1
    → get_or (set own i (get_or bytes i 0)) k 0 ≡ get_or bytes k 0
written_below own bytes i lt below k h = go (eqb k i) refl
  where
    go : (b : Bool) → eqb k i ≡ b → get_or (set own i (get_or bytes i 0)) k 0 ≡ get_or bytes k 0
    go true e =
        let same : k ≡ i = eqb-true k i e in
        subst (λ (n : ℕ). get_or (set own i (get_or bytes i 0)) n 0 ≡ get_or bytes n 0) (sym same)
        (rw get_or-set_same refl)
    go false e =
        let ne : k ≢ i = eqb-false k i e in
        let less : k < i = omega arith in
        rw get_or-set_other (below k less)

pub written_above : (own : List ℕ) (i v : ℕ) → ((k : ℕ) → i ≤ k → get_or own k 0 ≡ 0) → (k : ℕ) → i + 1 ≤ k
    → get_or (set own i v) k 0 ≡ 0
written_above own i v above k h =
    let ne : k ≢ i = omega arith in
    rw get_or-set_other (above k (omega arith))

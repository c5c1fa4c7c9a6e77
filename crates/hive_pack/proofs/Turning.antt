-- What stands after and before a place in a ring whose places rise.
use Rattle.std.proofs.Common.{◌≡◌, ◌≤◌, ◌<◌, ◌-◌, ◌+◌, ◌⊎◌, inl, inr, ℕ, zero, suc, true, false, eqb, eq-eqb, List, [], ◌∷◌, length, get_or, drop, refl, sym, ap, ◌∙◌, arith}
use Rattle.std.proofs.lemmas.Bool.{ne_eqb, cases_lt}
use Rattle.hive_model.specs.Packed.{first_or, last_or, behind, ahead, forward, backward}
use Rattle.hive_pack.specs.Writes.{IsRising}

pub behind_none : (first : ℕ) (xs : List ℕ) (at : ℕ) → ((k : ℕ) → k < length xs → get_or xs k 0 ≡ at → ⊥)
    → behind first xs at ≡ first
behind_none first [] at h = refl
behind_none first (x ∷ xs) at h =
    let no : eqb x at ≡ false = ne_eqb x at (h 0 (omega arith)) in
    rw no (behind_none first xs at (λ k lt. h (suc k) (omega arith)))

pub behind_at : (first : ℕ) (xs : List ℕ) (at i : ℕ) → i < length xs → get_or xs i 0 ≡ at
    → ((k : ℕ) → k < i → get_or xs k 0 < at)
    → behind first xs at ≡ first_or first (drop (suc i) xs)
behind_at first [] at i lt e h = absurd (omega arith)
behind_at first (x ∷ xs) at zero lt e h = let yes : eqb x at ≡ true = eq-eqb x at e in rw yes refl
behind_at first (x ∷ xs) at (suc i) lt e h =
    let no : eqb x at ≡ false = ne_eqb x at (λ q. omega (arith, h 0 (omega arith), q)) in
    rw no (behind_at first xs at i (omega arith) e (λ k l. h (suc k) (omega arith)))

pub head_drop : (first : ℕ) (xs : List ℕ) (i : ℕ) → i < length xs → first_or first (drop i xs) ≡ get_or xs i 0
head_drop first [] i lt = absurd (omega arith)
head_drop first (x ∷ xs) zero lt = refl
head_drop first (x ∷ xs) (suc i) lt = head_drop first xs i (omega arith)

pub head_past : (first : ℕ) (xs : List ℕ) (i : ℕ) → length xs ≤ i → first_or first (drop i xs) ≡ first
head_past first [] zero le = refl
head_past first [] (suc i) le = refl
head_past first (x ∷ xs) zero le = absurd (omega arith)
head_past first (x ∷ xs) (suc i) le = head_past first xs i (omega arith)

pub head_first : (xs : List ℕ) → 0 < length xs → first_or 0 xs ≡ get_or xs 0 0
head_first [] h = absurd (omega arith)
head_first (x ∷ xs) h = refl

pub ahead_none : (before : ℕ) (xs : List ℕ) (at : ℕ) → ((k : ℕ) → k < length xs → get_or xs k 0 ≡ at → ⊥)
    → ahead before xs at ≡ last_or before xs
ahead_none before [] at h = refl
ahead_none before (x ∷ xs) at h =
    let no : eqb x at ≡ false = ne_eqb x at (h 0 (omega arith)) in
    rw no (ahead_none x xs at (λ k lt. h (suc k) (omega arith)))

pub ahead_first : (before : ℕ) (xs : List ℕ) (at : ℕ) → 0 < length xs → get_or xs 0 0 ≡ at → ahead before xs at ≡ before
ahead_first before [] at lt e = absurd (omega arith)
ahead_first before (x ∷ xs) at lt e = let yes : eqb x at ≡ true = eq-eqb x at e in rw yes refl

pub ahead_later : (before : ℕ) (xs : List ℕ) (at i : ℕ) → suc i < length xs → get_or xs (suc i) 0 ≡ at
    → ((k : ℕ) → k < suc i → get_or xs k 0 < at) → ahead before xs at ≡ get_or xs i 0
ahead_later before [] at i lt e h = absurd (omega arith)
ahead_later before (x ∷ xs) at zero lt e h =
    let no : eqb x at ≡ false = ne_eqb x at (λ q. omega (arith, h 0 (omega arith), q)) in
    rw no (ahead_first x xs at (omega arith) e)
ahead_later before (x ∷ xs) at (suc i) lt e h =
    let no : eqb x at ≡ false = ne_eqb x at (λ q. omega (arith, h 0 (omega arith), q)) in
    rw no (ahead_later x xs at i (omega arith) e (λ k l. h (suc k) (omega arith)))

pub last_at : (d : ℕ) (xs : List ℕ) → 0 < length xs → last_or d xs ≡ get_or xs (length xs - 1) 0
last_at d [] h = absurd (omega arith)
last_at d (x ∷ []) h = refl
last_at d (x ∷ y ∷ xs) h =
    let n : length (x ∷ y ∷ xs) - 1 ≡ suc (length (y ∷ xs) - 1) = omega arith in
    rw n (last_at x (y ∷ xs) (omega arith))

cases_le : (i j : ℕ) → i ≤ j → (i < j) ⊎ (i ≡ j)
cases_le zero zero le = inr refl
cases_le zero (suc j) le = inl (omega arith)
cases_le (suc i) zero le = absurd (omega arith)
cases_le (suc i) (suc j) le = go (cases_le i j (omega arith))
  where
    go : (i < j) ⊎ (i ≡ j) → (suc i < suc j) ⊎ (suc i ≡ suc j)
    go (inl q) = inl (omega arith)
    go (inr q) = inr (ap suc q)

pub weakly : (xs : List ℕ) → IsRising xs → (i j : ℕ) → i ≤ j → j < length xs → get_or xs i 0 ≤ get_or xs j 0
weakly xs h i j le lt = elim (cases_le i j le) [ inl q ↦ omega (arith, h i j q lt) | inr q ↦ rw q (omega arith) ]

-- ---- the ring by positions

pub next_is : (xs : List ℕ) (at i : ℕ) → IsRising xs → i < length xs → get_or xs i 0 ≡ at → i + 1 < length xs
    → get_or xs (i + 1) 0 ≡ forward xs at
next_is xs at i r lt e more =
    let one : i + 1 ≡ suc i = omega arith in
    ap (λ k. get_or xs k 0) one
    ∙ sym (behind_at (first_or 0 xs) xs at i lt e (λ k l. omega (arith, r k i l lt, e))
    ∙ head_drop (first_or 0 xs) xs (suc i) (omega arith))

pub next_of_last : (xs : List ℕ) (at i : ℕ) → IsRising xs → i < length xs → get_or xs i 0 ≡ at → length xs ≤ i + 1
    → get_or xs 0 0 ≡ forward xs at
next_of_last xs at i r lt e last =
    sym (behind_at (first_or 0 xs) xs at i lt e (λ k l. omega (arith, r k i l lt, e))
    ∙ head_past (first_or 0 xs) xs (suc i) (omega arith) ∙ head_first xs (omega arith))

pub before_is : (xs : List ℕ) (at i : ℕ) → IsRising xs → i < length xs → get_or xs i 0 ≡ at → 0 < i
    → get_or xs (i - 1) 0 ≡ backward xs at
before_is xs at i r lt e some =
    let one : suc (i - 1) ≡ i = omega arith in
    sym (ahead_later (last_or 0 xs) xs at (i - 1) (omega arith) (ap (λ k. get_or xs k 0) one ∙ e)
    (λ k l. omega (arith, r k i (omega arith) lt, e)))

pub before_first : (xs : List ℕ) (at i : ℕ) → 0 < length xs → get_or xs i 0 ≡ at → i ≡ 0
    → get_or xs (length xs - 1) 0 ≡ backward xs at
before_first xs at i lt e z =
    sym (ahead_first (last_or 0 xs) xs at lt (ap (λ k. get_or xs k 0) (sym z) ∙ e) ∙ last_at 0 xs lt)

-- backward undoes forward
pub turned_back : (xs : List ℕ) (i : ℕ) → IsRising xs → i < length xs
    → backward xs (forward xs (get_or xs i 0)) ≡ get_or xs i 0
turned_back xs i r lt =
    elim (cases_lt (i + 1) (length xs)) [
      | inl more ↦
          let there = next_is xs (get_or xs i 0) i r lt refl more in
          let one : i + 1 - 1 ≡ i = omega arith in
          sym (before_is xs (forward xs (get_or xs i 0)) (i + 1) r more there (omega arith))
          ∙ ap (λ k. get_or xs k 0) one
      | inr last ↦
          let there = next_of_last xs (get_or xs i 0) i r lt refl last in
          let one : length xs - 1 ≡ i = omega arith in
          sym (before_first xs (forward xs (get_or xs i 0)) 0 (omega arith) there refl) ∙ ap (λ k. get_or xs k 0) one
    ]

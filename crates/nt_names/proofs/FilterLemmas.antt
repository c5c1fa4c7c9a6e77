-- What a filter keeps of a list.
use Rattle.std.proofs.Common.{◌≡◌, ℕ, zero, suc, ◌+◌, ◌<◌, ◌≤◌, Bool, true, false, List, [], ◌∷◌, length, get_or, take, drop, refl, sym, ap, ◌∙◌, arith}
use Rattle.std.specs.List.{filter, list_any, AllWithin, Contains}
use Rattle.std.proofs.lemmas.Bool.{or_parts, cond-true, cond-false, cond_both}

-- nothing, where no element passes
pub filter_none : {X : Type 0} (p : X → Bool) (xs : List X) → list_any p xs ≡ false → filter p xs ≡ []
filter_none p [] h = refl
filter_none p (x ∷ xs) h =
    let parts = or_parts (p x) (list_any p xs) h in
    cond-false (p x) (x ∷ filter p xs) (filter p xs) parts.0 ∙ filter_none p xs parts.1

-- the part of n elements from a on, where just its elements pass
pub filter_part : {X : Type 0} (p : X → Bool) (xs : List X) (a n : ℕ) → a + n ≤ length xs
    → AllWithin (λ x. p x ≡ false) xs 0 a → AllWithin (λ x. p x ≡ true) xs a (a + n)
    → AllWithin (λ x. p x ≡ false) xs (a + n) (length xs) → take n (drop a xs) ≡ filter p xs
filter_part p [] zero zero within before inside behind = refl
filter_part p [] zero (suc n) within before inside behind = absurd (omega (arith, within))
filter_part p [] (suc a) n within before inside behind = absurd (omega (arith, within))
filter_part p (x ∷ xs) zero zero within before inside behind =
    let rest = filter_part p xs 0 0 (omega arith) (λ k d low lt. absurd (omega (arith, lt)))
    (λ k d low lt. absurd (omega (arith, lt))) (λ k d low lt. behind (suc k) d (omega arith) (omega (arith, lt))) in
    rest ∙ sym (cond-false (p x) (x ∷ filter p xs) (filter p xs) (behind 0 x (omega arith) (omega arith)))
filter_part p (x ∷ xs) zero (suc n) within before inside behind =
    let rest = filter_part p xs 0 n (omega (arith, within)) (λ k d low lt. absurd (omega (arith, lt)))
    (λ k d low lt. inside (suc k) d (omega arith) (omega (arith, lt)))
    (λ k d low lt. behind (suc k) d (omega (arith, low)) (omega (arith, lt))) in
    ap (λ l. x ∷ l) rest ∙ sym
    (cond-true (p x) (x ∷ filter p xs) (filter p xs) (inside 0 x (omega arith) (omega arith)))
filter_part p (x ∷ xs) (suc a) n within before inside behind =
    let rest = filter_part p xs a n (omega (arith, within))
    (λ k d low lt. before (suc k) d (omega arith) (omega (arith, lt)))
    (λ k d low lt. inside (suc k) d (omega (arith, low)) (omega (arith, lt)))
    (λ k d low lt. behind (suc k) d (omega (arith, low)) (omega (arith, lt))) in
    rest ∙ sym (cond-false (p x) (x ∷ filter p xs) (filter p xs) (before 0 x (omega arith) (omega arith)))

-- an element that passes
pub Contains-filter : {X : Type 0} (p : X → Bool) (xs : List X) (x : X) → Contains xs x → p x ≡ true
    → Contains (filter p xs) x
Contains-filter {X} p xs x h pass = at xs h.0 h.1 h.2
  where
    at : (xs : List X) (k : ℕ) → k < length xs → get_or xs k x ≡ x → Contains (filter p xs) x
    at [] k lt e = absurd (omega (arith, lt))
    at (y ∷ ys) zero lt e = let first : p y ≡ true = ap p e ∙ pass in let P : List X → Type 0 = λ l. Contains l x in
        rw (cond-true (p y) (y ∷ filter p ys) (filter p ys) first) (0, omega arith, e)
    at (y ∷ ys) (suc k) lt e =
        let rest : Contains (filter p ys) x = at ys k (omega (arith, lt)) e in
        cond_both (p y) (y ∷ filter p ys) (filter p ys) (λ l. Contains l x)
        (λ _. (suc rest.0, omega (arith, rest.1), rest.2)) (λ _. rest)

-- What passes a test, where none of a list is counted.
use Rattle.std.proofs.Common.{◌≡◌, ℕ, ◌+◌, Bool, true, false, not, ◌&&◌, cond, List, [], ◌∷◌, ◌++◌, refl, arith}
use Rattle.std.specs.Prelude.{fold}
use Rattle.std.specs.List.{list_all}
use Rattle.std.proofs.lemmas.Bool.{and_parts}
use Rattle.diff_laws.proofs.AgreeLemmas.{and_of}

-- where nothing is counted, none passes
pub uncounted : {X : Type 0} (p : X → Bool) (n : ℕ) (xs : List X) → fold (λ (k : ℕ) (x : X). k + cond (p x) 1 0) n xs ≡ 0
    → (n ≡ 0) × (list_all (λ x. not (p x)) xs ≡ true)
uncounted p n [] e = (e, refl)
uncounted p n (x ∷ xs) e = by (p x) (uncounted p (n + cond (p x) 1 0) xs e)
  where
    by : (b : Bool) → (n + cond b 1 0 ≡ 0) × (list_all (λ y. not (p y)) xs ≡ true)
        → (n ≡ 0) × ((not b && list_all (λ y. not (p y)) xs) ≡ true)
    by true rest = absurd (omega (arith, rest.0))
    by false rest = (omega (arith, rest.0), rest.1)

pub all_parts : {X : Type 0} (p : X → Bool) (xs ys : List X) → list_all p (xs ++ ys) ≡ true
    → (list_all p xs ≡ true) × (list_all p ys ≡ true)
all_parts p [] ys all = (refl, all)
all_parts p (x ∷ xs) ys all =
    let both = and_parts (p x) (list_all p (xs ++ ys)) all in
    let rest = all_parts p xs ys both.1 in
    (and_of (p x) (list_all p xs) both.0 rest.0, rest.1)

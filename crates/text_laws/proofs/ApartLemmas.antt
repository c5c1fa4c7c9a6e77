-- Names that none of those before them passes for, put after one another.
use Rattle.std.proofs.Common.{◌≡◌, ℕ, suc, Bool, true, false, cond, List, [], ◌∷◌, ◌++◌, map, Some, None, refl, ◌∙◌, ap, arith}
use Rattle.std.specs.Prelude.{find}
use Rattle.std.specs.List.{All, AllPairs}
use Rattle.hive_model.specs.Edit.{at_first}

-- a test of a name against one that stands before it
abbrev pub Test : Type 0
Test = List ℕ → List ℕ → Bool

-- the name passes with none of these
abbrev pub Free : Test → List ℕ → List (List ℕ) → Type 0
Free p x [] = Unit {0}
Free p x (y ∷ ys) = (p x y ≡ false) × Free p x ys

-- nor does any of these with one before it
abbrev pub Apart : Test → List (List ℕ) → List (List ℕ) → Type 0
Apart p done [] = Unit {0}
Apart p done (x ∷ xs) = Free p x done × Apart p (done ++ x ∷ []) xs

-- nor any of these with those
abbrev EachFree : Test → List (List ℕ) → List (List ℕ) → Type 0
EachFree p done [] = Unit {0}
EachFree p done (x ∷ xs) = Free p x done × EachFree p done xs

free_push : (p : Test) (x y : List ℕ) (ys : List (List ℕ)) → Free p x ys → p x y ≡ false → Free p x (ys ++ y ∷ [])
free_push p x y [] free e = (e, tt)
free_push p x y (z ∷ ys) free e = (free.0, free_push p x y ys free.1 e)

module _ {X : Type 0} (p : Test) (name : X → List ℕ) where
  each_push : (y : X) (done : List (List ℕ)) (xs : List X) → EachFree p done (map name xs)
      → All (λ x. p (name x) (name y) ≡ false) xs
      → EachFree p (done ++ name y ∷ []) (map name xs)
  each_push y done [] each all = tt
  each_push y done (x ∷ xs) each all = (
    free_push p (name x) (name y) done each.0 (all 0 x (omega arith)),
    each_push y done xs each.1 (λ k d lt. all (suc k) d (omega arith)),
  )

  apart_by : (done : List (List ℕ)) (xs : List X) → EachFree p done (map name xs)
      → AllPairs (λ a b. p (name b) (name a) ≡ false) xs
      → Apart p done (map name xs)
  apart_by done [] each pairs = tt
  apart_by done (x ∷ xs) each pairs = (
    each.0,
    apart_by (done ++ name x ∷ []) xs
        (each_push x done xs each.1 (λ k d lt. pairs 0 (suc k) d (omega arith) (omega arith)))
        (λ i j d below lt. pairs (suc i) (suc j) d (omega arith) (omega arith)),
  )

  each_nil : (xs : List X) → EachFree p [] (map name xs)
  each_nil [] = tt
  each_nil (x ∷ xs) = (tt, each_nil xs)

  pub apart : (xs : List X) → AllPairs (λ a b. p (name b) (name a) ≡ false) xs → Apart p [] (map name xs)
  apart xs pairs = apart_by [] xs (each_nil xs) pairs

  -- ---- the first that passes

  pub none_found : (x : List ℕ) (ys : List X) → Free p x (map name ys) → find (λ y. p x (name y)) ys ≡ None
  none_found x [] free = refl
  none_found x (y ∷ ys) free =
      ap (λ (b : Bool). cond b (Some y) (find (λ z. p x (name z)) ys)) free.0 ∙ none_found x ys free.1

  pub last_found : (x : List ℕ) (ys : List X) (z : X) → Free p x (map name ys) → p x (name z) ≡ true
      → find (λ y. p x (name y)) (ys ++ z ∷ []) ≡ Some z
  last_found x [] z free e = ap (λ (b : Bool). cond b (Some z) None) e
  last_found x (y ∷ ys) z free e =
      ap (λ (b : Bool). cond b (Some y) (find (λ w. p x (name w)) (ys ++ z ∷ []))) free.0 ∙ last_found x ys z free.1 e

  pub last_changed : (x : List ℕ) (f : X → X) (ys : List X) (z : X) → Free p x (map name ys) → p x (name z) ≡ true
      → at_first (λ y. p x (name y)) f (ys ++ z ∷ []) ≡ ys ++ f z ∷ []
  last_changed x f [] z free e = ap (λ (b : Bool). cond b (f z ∷ []) (z ∷ [])) e
  last_changed x f (y ∷ ys) z free e =
      ap (λ (b : Bool). cond b (f y ∷ (ys ++ z ∷ [])) (y ∷ at_first (λ w. p x (name w)) f (ys ++ z ∷ []))) free.0
      ∙ ap (λ (l : List X). y ∷ l) (last_changed x f ys z free.1 e)

pub map_push : {X : Type 0} (name : X → List ℕ) (xs : List X) (y : X)
    → map name (xs ++ y ∷ []) ≡ map name xs ++ name y ∷ []
map_push name [] y = refl
map_push name (x ∷ xs) y = ap (λ (l : List (List ℕ)). name x ∷ l) (map_push name xs y)

-- Names that differ: each from those before it, or any two of a list.
use Rattle.std.proofs.Common.{◌≡◌, ℕ, suc, false, ◌||◌, List, [], ◌∷◌, ◌++◌, slice_index_or, refl, sym, ap, ◌∙◌, arith}
use Rattle.std.specs.List.{All, AllPairs, list_any}
use Rattle.std.proofs.lemmas.List.Elements.{All-cons, All-nil}
use Rattle.std.proofs.lemmas.List.Kept.{AllPairs-cons}
use Rattle.std.proofs.lemmas.List.Folds.{list_any-append}
use Rattle.nt_bytes.specs.Folding.{folds_same}
use Rattle.std.proofs.lemmas.Bool.{or_parts}
use Rattle.std.proofs.Math.Bool.{or-false}

-- each has a name unlike these and unlike those before it
abbrev pub Apart : {X : Type 0} → (X → List ℕ) → List (List ℕ) → List X → Type 0
Apart name names [] = Unit {0}
Apart name names (x ∷ xs) = (list_any (folds_same (name x)) names ≡ false) × Apart name (names ++ name x ∷ []) xs

-- a later one has another name than an earlier one
abbrev pub Differ : {X : Type 0} → (X → List ℕ) → X → X → Type 0
Differ name a b = folds_same (name b) (name a) ≡ false

pushed : (m n : List ℕ) (names : List (List ℕ))
    → list_any (folds_same m) (names ++ n ∷ []) ≡ (list_any (folds_same m) names || folds_same m n)
pushed m n names = list_any-append (folds_same m) names (n ∷ [])
    ∙ ap (λ b. list_any (folds_same m) names || b) (or-false (folds_same m n))

apart-from : {X : Type 0} (name : X → List ℕ) (names : List (List ℕ)) (n : List ℕ) (xs : List X)
    → ((m : List ℕ) → list_any (folds_same m) names ≡ false → folds_same m n ≡ false) → Apart name names xs
    → All (λ x. folds_same (name x) n ≡ false) xs
apart-from name names n [] h a = All-nil (λ x. folds_same (name x) n ≡ false)
apart-from name names n (x ∷ xs) h a =
    All-cons (λ x. folds_same (name x) n ≡ false) x xs (h (name x) a.0)
    (apart-from name (names ++ name x ∷ []) n xs
    (λ m e. h m (or_parts (list_any (folds_same m) names) (folds_same m (name x))
    (sym (pushed m (name x) names) ∙ e)).0) a.1)

-- what is each apart from those before it differs pair by pair
pub apart-pairs : {X : Type 0} (name : X → List ℕ) (names : List (List ℕ)) (xs : List X) → Apart name names xs
    → AllPairs (Differ name) xs
apart-pairs name names [] a = λ i j d lt within. absurd (omega arith)
apart-pairs name names (x ∷ xs) a =
    AllPairs-cons (Differ name) x xs
    (apart-from name (names ++ name x ∷ []) (name x) xs
    (λ m e. (or_parts (list_any (folds_same m) names) (folds_same m (name x)) (sym (pushed m (name x) names) ∙ e)).1)
    a.1)
    (apart-pairs name (names ++ name x ∷ []) xs a.1)

joined-false : (m n : List ℕ) (names : List (List ℕ)) → list_any (folds_same m) names ≡ false → folds_same m n ≡ false
    → list_any (folds_same m) (names ++ n ∷ []) ≡ false
joined-false m n names e d = pushed m n names ∙ rw (e, d) refl

-- names unlike all of these, and unlike each other
pub pairs-apart : {X : Type 0} (name : X → List ℕ) (names : List (List ℕ)) (xs : List X)
    → All (λ x. list_any (folds_same (name x)) names ≡ false) xs → AllPairs (Differ name) xs → Apart name names xs
pairs-apart name names [] h p = tt
pairs-apart name names (x ∷ xs) h p = (
  h 0 x (omega arith),
  pairs-apart name (names ++ name x ∷ []) xs
      (λ k d within. joined-false (name (slice_index_or xs k d)) (name x) names (h (suc k) d (omega arith))
      (p 0 (suc k) d (omega arith) (omega arith)))
      (λ i j d lt within. p (suc i) (suc j) d (omega arith) (omega arith)),
)

none-before : {X : Type 0} (name : X → List ℕ) (xs : List X) → All (λ x. list_any (folds_same (name x)) [] ≡ false) xs
none-before name xs = λ k d within. refl

pub differ-apart : {X : Type 0} (name : X → List ℕ) (xs : List X) → AllPairs (Differ name) xs → Apart name [] xs
differ-apart name xs p = pairs-apart name [] xs (none-before name xs) p

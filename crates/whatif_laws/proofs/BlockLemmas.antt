-- The blocks of a name, and those of the whole.
use Rattle.std.proofs.Common.{◌≡◌, ℕ, Bool, true, false, cond, List, [], ◌∷◌, ◌++◌, Some, None, refl, ap}
use Rattle.std.specs.Prelude.{filter}
use Rattle.std.specs.List.{flat_map}
use Rattle.nt_bytes.specs.Folding.{folds_same}
use Rattle.failure_effects.specs.declared.opening.Taken.{Taken}
use Rattle.failure_effects.specs.declared.told.Told.{Told}
use Rattle.failure_effects.specs.Effects.{is_asked}
use Rattle.failure_effects.specs.Lost.{blocks_of, blocks_where}

-- those that pass, one after another
passing : {X Y : Type 0} (f : X → List Y) (p : X → Bool) (xs : List X)
    → flat_map (λ x. cond (p x) (f x) []) xs ≡ flat_map f (filter p xs)
passing f p [] = refl
passing f p (x ∷ xs) = by_case (p x) (passing f p xs)
  where
    by_case : (b : Bool) → flat_map (λ x. cond (p x) (f x) []) xs ≡ flat_map f (filter p xs)
        → cond b (f x) [] ++ flat_map (λ x. cond (p x) (f x) []) xs ≡ flat_map f (cond b (x ∷ filter p xs) (filter p xs))
    by_case true rest = ap (λ ys. f x ++ ys) rest
    by_case false rest = rest

pub whole : (taken : Taken) (plain : List Told) → blocks_where (is_asked None) taken plain ≡ flat_map (blocks_of taken plain) plain
whole taken plain = refl

pub part : (taken : Taken) (plain : List Told) (name : List ℕ)
    → blocks_where (is_asked (Some name)) taken plain
    ≡ flat_map (blocks_of taken plain) (filter (λ (t : Told). folds_same name t.name) plain)
part taken plain name = passing (blocks_of taken plain) (λ (t : Told). folds_same name t.name) plain

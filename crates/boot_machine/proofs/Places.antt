-- The first place at which a test passes.
use Rattle.std.proofs.Common.{◌≡◌, ℕ, ◌+◌, Bool, cond, List, [], ◌∷◌, map, Some, refl, sym, ap, ◌∙◌}
use Rattle.std.specs.Prelude.{position}
use Rattle.std.specs.List.{position_from}
use Rattle.std.proofs.lemmas.Iterator.Adapters.{position_from-zero}

map_from : {X Y : Type 0} (f : X → Y) (p : Y → Bool) (i : ℕ) (xs : List X)
    → position_from p i (map f xs) ≡ position_from (λ x. p (f x)) i xs
map_from f p i [] = refl
map_from f p i (x ∷ xs) = ap (cond (p (f x)) (Some i)) (map_from f p (i + 1) xs)

-- a place among images
pub position_map : {X Y : Type 0} (f : X → Y) (p : Y → Bool) (xs : List X)
    → position p (map f xs) ≡ position (λ x. p (f x)) xs
position_map f p xs = position_from-zero p (map f xs) ∙ (map_from f p 0 xs ∙ sym (position_from-zero (λ x. p (f x)) xs))

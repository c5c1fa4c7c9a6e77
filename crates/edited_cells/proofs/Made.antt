-- A key made or deleted, whole: the frame of the step from what happens at the parent.
use Rattle.std.proofs.Common.{◌≡◌, ℕ, ◌-◌, List, [], ◌∷◌, ◌++◌, length, take, refl, ◌∙◌, ap, arith, length-append}
use Rattle.hive_model.specs.Footprint.{parent_of}

pub parent_is : (parent : List (List ℕ)) (name : List ℕ) → parent_of (parent ++ name ∷ []) ≡ parent
parent_is parent name =
    ap (λ (n : ℕ). take n (parent ++ name ∷ []))
    (let l : length (parent ++ name ∷ []) - 1 ≡ length parent = omega (arith, length-append {A = List ℕ}) in l)
    ∙ take_front parent (name ∷ [])
  where
    take_front : (xs ys : List (List ℕ)) → take (length xs) (xs ++ ys) ≡ xs
    take_front [] ys = refl
    take_front (x ∷ xs) ys = ap (λ (l : List (List ℕ)). x ∷ l) (take_front xs ys)

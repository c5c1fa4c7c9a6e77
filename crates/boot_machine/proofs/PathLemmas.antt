-- The last component of a path.
use Rattle.std.proofs.Common.{◌≡◌, ◌≤◌, ◌-◌, ℕ, suc, List, [], ◌∷◌, length, get_or, refl, ap, ◌∙◌, arith}
use Rattle.start_model.specs.Events.{last_of}

pub last_of-item : (path : List (List ℕ)) (d : List ℕ) → 1 ≤ length path
    → get_or path (length path - 1) d ≡ last_of path
last_of-item [] d h = absurd (omega (arith, h))
last_of-item (x ∷ []) d h = refl
last_of-item (x ∷ y ∷ more) d h =
    let at : length (x ∷ y ∷ more) - 1 ≡ suc (length (y ∷ more) - 1) = omega arith in
    ap (λ n. get_or (x ∷ y ∷ more) n d) at ∙ last_of-item (y ∷ more) d (omega arith)

-- Each two of a list (this project's own).
use Rattle.std.specs.Prelude.{List, [], ◌∷◌}
use Rattle.edited_cells.specs.Owned.{In}

-- the relation holds of each two, the earlier first
abbrev pub Pairwise : {X : Type 0} → (X → X → Type 0) → List X → Type 0
Pairwise R [] = Unit {0}
Pairwise {X} R (x ∷ xs) = ((y : X) → In xs y → R x y) × Pairwise R xs

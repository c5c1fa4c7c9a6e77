-- Which cells do a key and the keys below it use, and how? (This project's own; the order is that of the book's walk.)
use Rattle.std.specs.Prelude.{◌≡◌, ℕ, zero, suc, Bool, true, false, List, [], ◌∷◌, ◌++◌, map, flat_map}
use Rattle.hive_model.specs.Bins.{Cells}
use Rattle.hive_model.specs.Footprint.{child_places, security_cell_at, list_cells_at}
use Rattle.edited_cells.specs.Owned.{class_cell_at}
use Rattle.edited_cells.specs.Pairs.{Pairwise}
use Rattle.edited_cells.specs.Revalues.{all_value_cells}

-- two uses, each of an offset and perhaps as security, are of two cells, or both as security
abbrev pub Agree : ℕ × Bool → ℕ × Bool → Type 0
Agree u v = u.0 ≡ v.0 → (u.1 ≡ true) × (v.1 ≡ true)

-- each cell is used once, or each time as security
abbrev pub Once : List (ℕ × Bool) → Type 0
Once us = Pairwise Agree us

-- cells that are used, not as security
abbrev pub plain : List ℕ → List (ℕ × Bool)
plain xs = map (λ o. (o, false)) xs

-- cells that are used as security
abbrev pub secure : List ℕ → List (ℕ × Bool)
secure xs = map (λ o. (o, true)) xs

-- the uses of a key but for its children
abbrev pub own_uses : Cells → ℕ → List (ℕ × Bool)
own_uses cells at =
    (at, false)
    ∷ (plain (class_cell_at cells at)
    ++ (secure (security_cell_at cells at)
    ++ (plain (all_value_cells cells at) ++ plain (list_cells_at cells at))))

-- the uses of a key and of all below it, that many levels down
abbrev pub tree_uses : ℕ → Cells → ℕ → List (ℕ × Bool)
tree_uses zero cells at = []
tree_uses (suc left) cells at = own_uses cells at ++ flat_map (tree_uses left cells) (child_places cells at)

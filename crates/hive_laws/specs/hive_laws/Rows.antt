-- Cells in sequence.
use Rattle.std.specs.Prelude.{ℕ, ◌+◌, List, [], ◌∷◌, length}
use Rattle.hive_model.specs.Bins.{Cells}
use Rattle.hive_model.specs.Size.{cell}
use Rattle.hive_model.specs.InPlace.{BeginsWith}

-- from here on cells begin with these payloads, each where a cell for the one before ends
abbrev pub InARow : Cells → ℕ → List (List ℕ) → Type 0
InARow cells at [] = Unit {0}
InARow cells at (p ∷ ps) = BeginsWith cells at p × InARow cells (at + cell (length p)) ps

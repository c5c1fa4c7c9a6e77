-- Which names do the events of a script ask for as vital? (this project's own)
use Rattle.std.specs.Prelude.{ℕ, Bool, false, List, [], ◌∷◌}
use Rattle.nt_bytes.specs.Folding.{folds_same}
use Rattle.start_model.specs.Events.{Event, Vital}
use Rattle.start_model.specs.Machine.{with_vital}

-- the event asks for this name, by fold
abbrev pub asks_for : List ℕ → Event → Bool
asks_for name (Vital other) = folds_same name other
asks_for name e = false

-- the vital names after these events, where those were vital before
abbrev pub vital_behind : List (List ℕ) → List Event → List (List ℕ)
vital_behind names [] = names
vital_behind names (Vital name ∷ es) = vital_behind (with_vital names name) es
vital_behind names (e ∷ es) = vital_behind names es

-- no event asks for a vital name
abbrev pub AreNotVital : List Event → Type 0
AreNotVital [] = Unit {0}
AreNotVital (Vital name ∷ es) = ⊥
AreNotVital (e ∷ es) = AreNotVital es

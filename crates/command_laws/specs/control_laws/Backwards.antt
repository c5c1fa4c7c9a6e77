-- In which order are services stopped? (this project's own)
use Rattle.std.specs.Prelude.{◌≡◌, ℕ, true, List, ◌∷◌, ◌++◌, Contains}
use Rattle.std.specs.List.{list_any}
use Rattle.nt_bytes.specs.Folding.{folds_same}
use Rattle.start_model.specs.Demand.{Need}

-- one of these has the name
abbrev pub some_has : List Need → List ℕ → Type 0
some_has needs name = list_any (λ n. folds_same name n.name) needs ≡ true

-- what one of these names in DependOnService, and another one has, stands after it
abbrev pub EachBeforeItsNeeds : List Need → Type 0
EachBeforeItsNeeds stopped =
    (front back : List Need) (n : Need) (name : List ℕ) → stopped ≡ front ++ n ∷ back → Contains n.services name
    → some_has stopped name → some_has back name

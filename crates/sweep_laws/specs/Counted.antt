-- Which words does the table print, call by call? (This project's own.)
use Rattle.std.specs.Prelude.{ℕ, Bool, List, [], ◌∷◌, ◌++◌}
use Rattle.sweep_text.specs.sweep_text.Stages.{Stage}

-- the four words of a call: of the way that keeps nothing, and of the others; `true` is `after`
abbrev pub four : Bool → Bool → List Bool
four none others = none ∷ others ∷ others ∷ others ∷ []

-- those of the writes of these sectors
abbrev pub words_of_writes : Bool → List ℕ → List Bool
words_of_writes written [] = []
words_of_writes written (sector ∷ more) = four written written ++ words_of_writes written more

-- those of the writes and syncs of these stages
abbrev pub words_in : List Stage → List Bool
words_in [] = []
words_in (s ∷ more) = (words_of_writes s.leaves.written s.sectors ++ four s.leaves.none s.leaves.others) ++ words_in more

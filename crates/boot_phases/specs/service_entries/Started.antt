-- Which entries are there after one gets another Start?
use Rattle.std.specs.Prelude.{ℕ, zero, suc, List, [], ◌∷◌}
use Rattle.start_model.specs.Entries.{Entry}

-- the entry with this Start
abbrev pub with_start : ℕ → Entry → Entry
with_start start e = record e { start = start }

-- the entries with this Start of the one at a place
abbrev pub with_start_at : List Entry → ℕ → ℕ → List Entry
with_start_at [] place start = []
with_start_at (e ∷ es) zero start = with_start start e ∷ es
with_start_at (e ∷ es) (suc place) start = e ∷ with_start_at es place start

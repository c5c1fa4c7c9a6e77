-- A mark for each of the sectors from a number on: which of them begin in an entry's pages?
use Rattle.std.specs.Prelude.{◌≡◌, ◌<◌, ◌+◌, ◌*◌, ◌&&◌, ◌||◌, Bool, true, false, nat_le, nat_lt, ℕ, zero, suc, List, length, slice_index_or}
use Rattle.windows_logs.specs.entry_log.Growing.{covers}

-- the sector begins in a page of this place and length
abbrev pub is_within : ℕ → ℕ → ℕ → Bool
is_within place long sector = nat_le place (512 * sector) && nat_lt (512 * sector) (place + long)

-- a mark of the sectors from this one on is on where its sector is in one of the first n pages
abbrev pub AreMarks : List ℕ → ℕ → ℕ → List Bool → Type 0
AreMarks bytes n from marks = (k : ℕ) → k < length marks → slice_index_or marks k false ≡ covers bytes n (from + k)

-- the marks are those of before, and on where the sector passes this test
abbrev pub MarksMore : (ℕ → Bool) → ℕ → List Bool → List Bool → Type 0
MarksMore test from old new = (k : ℕ) → k < length old → slice_index_or new k false ≡ (slice_index_or old k false || test (from + k))

-- the first m marks are on
unfoldable pub all_on : List Bool → ℕ → Bool
all_on marks zero = true
all_on marks (suc m) = all_on marks m && slice_index_or marks m false

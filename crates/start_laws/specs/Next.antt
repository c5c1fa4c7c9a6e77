-- Which entry is the next one?
use Rattle.std.specs.Prelude.{◌≡◌, ◌<◌, ℕ, true, false, List, length}
use Rattle.std.specs.List.{slice_index_or}
use Rattle.start_model.specs.Demand.{Need}
use Rattle.start_model.specs.Ready.{Label, is_ready}

-- the entry at this place is ready, and none that stands before it is
pub record IsNext (started : List Label) (waiting : List Need) (place : ℕ) : Type 0 where
  pub within : place < length waiting
  pub ready : (d : Need) → is_ready started (slice_index_or waiting place d) ≡ true
  pub first : (k : ℕ) (d : Need) → k < place → is_ready started (slice_index_or waiting k d) ≡ false

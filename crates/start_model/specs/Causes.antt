-- Has each stop that a run reports its cause, a count of the disk that rose since its start began? (this project's own)
--
-- Numbers alone: which wake, and which counts. A disk counts the losses of power and the failed calls that it had.
use Rattle.std.specs.Prelude.{ℕ, List, [], ◌∷◌}
use Rattle.start_model.specs.Possible.{Outcome, Finished, PowerCut, DeviceFault}
use Rattle.start_model.specs.Act.{Note, Woke, Ended}
use Rattle.nt_bytes.specs.Counts.{Rises}

-- how many losses of power and failed calls a disk had until a moment
pub record Tally : Type 0 where
  pub cuts : ℕ
  pub faults : ℕ

-- a loss of power was counted between the two moments, or a failed call
abbrev pub HasCause : Outcome → Tally → Tally → Type 0
HasCause Finished since at = Unit {0}
HasCause PowerCut since at = Rises since.cuts at.cuts
HasCause DeviceFault since at = Rises since.faults at.faults

-- the counts at the next wake, or now where there is none
abbrev pub next_tally : List Tally → Tally → Tally
next_tally [] now = now
next_tally (w ∷ ws) now = w

-- Each stop has its cause between the wake of its start and the next wake, or now. `wakes` are the counts at each wake
-- of the notes, and `since` those at the last wake before them.
abbrev pub Caused : (notes : List Note) → (wakes : List Tally) → (since now : Tally) → Type 0
Caused [] [] since now = Unit {0}
Caused [] (w ∷ ws) since now = ⊥
Caused (Woke p ∷ ns) [] since now = ⊥
Caused (Woke p ∷ ns) (w ∷ ws) since now = Caused ns ws w now
Caused (Ended outcome ∷ ns) ws since now = HasCause outcome since (next_tally ws now) × Caused ns ws since now
Caused (note ∷ ns) ws since now = Caused ns ws since now

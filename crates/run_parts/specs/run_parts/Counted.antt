-- Is each stop that a disk counted reported? (this project's own)
--
-- Numbers alone, as in the causes of the book: a disk counts the losses of power and the failed calls that it had. What a run
-- reports are its notes.
use Rattle.std.specs.Prelude.{◌≡◌, ◌+◌, List, [], ◌∷◌}
use Rattle.nt_bytes.specs.Counts.{Rises, capped}
use Rattle.start_model.specs.Possible.{Outcome, Finished, PowerCut, DeviceFault}
use Rattle.start_model.specs.Act.{Note, Woke, Held, Saved, Ordered, Cuts, Ended}
use Rattle.start_model.specs.Causes.{Tally}

-- What the disk counted in an operation, by how that ended. Where it is done, nothing. Where the power was lost, that, and
-- perhaps a failed call too, since both may be due at one call. Where a call failed, that, and no loss of power.
abbrev pub CountedIn : Outcome → Tally → Tally → Type 0
CountedIn Finished before after = after ≡ before
CountedIn PowerCut before after = Rises before.cuts after.cuts
CountedIn DeviceFault before after = (after.cuts ≡ before.cuts) × Rises before.faults after.faults

-- one loss of power more, and nothing else
abbrev pub with_cut : Tally → Tally
with_cut t = record t { cuts = capped (t.cuts + 1) }

-- The counts add up: from `since` over those at each wake to those of now they rose by what the notes tell, and by nothing
-- else. An operation counts as it ended. A cut of the script counts once, and the stop that is reported of it counts no more.
abbrev pub AddsUp : (notes : List Note) → (wakes : List Tally) → (since now : Tally) → Type 0
AddsUp [] [] since now = now ≡ since
AddsUp [] (w ∷ ws) since now = ⊥
AddsUp (Woke p ∷ ns) [] since now = ⊥
AddsUp (Woke p ∷ ns) (w ∷ ws) since now = (w ≡ since) × AddsUp ns ws w now
AddsUp (Ended outcome ∷ ns) ws since now = (at : Tally) × (CountedIn outcome since at × AddsUp ns ws at now)
AddsUp (Cuts ∷ Ended PowerCut ∷ ns) ws since now = AddsUp ns ws (with_cut since) now
AddsUp (Cuts ∷ ns) ws since now = ⊥
AddsUp (Held tree ∷ ns) ws since now = AddsUp ns ws since now
AddsUp (Saved clone ∷ ns) ws since now = AddsUp ns ws since now
AddsUp (Ordered arming ∷ ns) ws since now = AddsUp ns ws since now

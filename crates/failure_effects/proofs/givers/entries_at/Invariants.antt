use Rattle.std.proofs.Common.{◌≡◌, take}
use Rattle.failure_effects.specs.Givers.{entries_at}
use Rattle.failure_effects.proofs.givers.entries_at.Given as goal

abbrev pub invariant-loop-place : goal.invariant-loop-place
invariant-loop-place l = l.out ≡ entries_at l.entries (take l.place-index l.places)

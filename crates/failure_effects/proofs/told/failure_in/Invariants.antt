use Rattle.std.proofs.Common.{◌≡◌, length}
use Rattle.failure_effects.specs.Played.{failure_in}
use Rattle.failure_effects.proofs.told.failure_in.Given as goal

abbrev pub invariant-told : goal.invariant-told
invariant-told l = failure_in l.rest ≡ failure_in l.told

abbrev pub decreases-told : goal.decreases-told
decreases-told l = length l.rest

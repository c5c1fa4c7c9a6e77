use Rattle.std.proofs.Common.{◌≡◌, take}
use Rattle.failure_effects.specs.Played.{started_in}
use Rattle.failure_effects.proofs.told.started_in.Given as goal

abbrev pub invariant-loop-one : goal.invariant-loop-one
invariant-loop-one l = l.names ≡ started_in (take l.one-index l.told)

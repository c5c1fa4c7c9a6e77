use Rattle.std.proofs.Common.{◌≡◌, take}
use Rattle.set_diff.specs.Boots.{attempt_names}
use Rattle.set_diff.proofs.boot.attempt_names.Given as goal

abbrev pub invariant-loop-attempt : goal.invariant-loop-attempt
invariant-loop-attempt l = l.names ≡ attempt_names (take l.attempt-index l.attempts)

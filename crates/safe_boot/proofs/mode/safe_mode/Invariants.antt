use Rattle.std.proofs.Common.{◌≡◌, length}
use Rattle.safe_boot.specs.Modes.{mode_asked}
use Rattle.safe_boot.proofs.mode.safe_mode.Given as goal

abbrev pub invariant-switch : goal.invariant-switch
invariant-switch l = mode_asked l.rest ≡ mode_asked l.switches

abbrev pub decreases-switch : goal.decreases-switch
decreases-switch l = length l.rest

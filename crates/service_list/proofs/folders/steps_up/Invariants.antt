use Rattle.std.proofs.Common.{◌≡◌, true, length}
use Rattle.service_list.specs.Folders.{steps_up}
use Rattle.service_list.proofs.folders.steps_up.Given as goal

abbrev pub invariant-units : goal.invariant-units
invariant-units l = steps_up l.fresh l.rest ≡ steps_up true l.text

abbrev pub decreases-units : goal.decreases-units
decreases-units l = length l.rest

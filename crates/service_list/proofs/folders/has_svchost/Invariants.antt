use Rattle.std.proofs.Common.{◌≡◌, true, length}
use Rattle.service_list.specs.Folders.{has_svchost}
use Rattle.service_list.proofs.folders.has_svchost.Given as goal

abbrev pub invariant-units : goal.invariant-units
invariant-units l = has_svchost l.fresh l.rest ≡ has_svchost true l.text

abbrev pub decreases-units : goal.decreases-units
decreases-units l = length l.rest

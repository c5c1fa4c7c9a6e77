use Rattle.std.proofs.Common.{◌≡◌, true, length}
use Rattle.service_check.specs.Children.{has_rest}
use Rattle.service_check.proofs.malformed.has_rest.Given as goal

abbrev pub invariant-units : goal.invariant-units
invariant-units l = has_rest l.fresh l.rest ≡ has_rest true l.units

abbrev pub decreases-units : goal.decreases-units
decreases-units l = length l.rest

use Rattle.std.proofs.Common.{◌≡◌, length}
use Rattle.device_rule.specs.Drivers.{begins_folded}
use Rattle.device_rule.proofs.driver.begins_folded.Given as goal

abbrev pub invariant-units : goal.invariant-units
invariant-units l = begins_folded l.xs l.ys ≡ begins_folded l.front l.name

abbrev pub decreases-units : goal.decreases-units
decreases-units l = length l.xs

use Rattle.std.proofs.Common.{◌≡◌, None, length}
use Rattle.why_needs.specs.why_needs.Met.{service_met}
use Rattle.why_needs.specs.why_needs.Ready.{latest}
use Rattle.why_needs.proofs.why_needs.ready.latest_service.Given as goal

abbrev pub invariant-name : goal.invariant-name
invariant-name l = latest (service_met l.run) l.so_far l.rest ≡ latest (service_met l.run) None l.names

abbrev pub decreases-name : goal.decreases-name
decreases-name l = length l.rest

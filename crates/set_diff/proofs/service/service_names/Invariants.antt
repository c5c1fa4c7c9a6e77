use Rattle.std.proofs.Common.{◌≡◌, take}
use Rattle.set_diff.specs.Services.{service_names}
use Rattle.set_diff.proofs.service.service_names.Given as goal

abbrev pub invariant-loop-service : goal.invariant-loop-service
invariant-loop-service l = l.names ≡ service_names (take l.service-index l.services)

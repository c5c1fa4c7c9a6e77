use Rattle.std.proofs.Common.{◌≡◌, take}
use Rattle.service_control.specs.Causes.{names_at}
use Rattle.service_control.proofs.causes.names_at.Given as goal

abbrev pub invariant-loop-place : goal.invariant-loop-place
invariant-loop-place l = l.names ≡ names_at l.running (take l.place-index l.places)

use Rattle.std.proofs.Common.{◌≡◌, take}
use Rattle.service_control.specs.Causes.{keys_of}
use Rattle.service_control.proofs.causes.keys.Given as goal

abbrev pub invariant-loop-need : goal.invariant-loop-need
invariant-loop-need l = l.keys ≡ keys_of (take l.need-index l.running)

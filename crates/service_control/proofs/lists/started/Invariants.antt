use Rattle.std.proofs.Common.{◌≡◌, take}
use Rattle.service_control.specs.State.{labels_of}
use Rattle.service_control.proofs.lists.started.Given as goal

abbrev pub invariant-loop-need : goal.invariant-loop-need
invariant-loop-need l = l.started ≡ labels_of (take l.need-index l.needs)

use Rattle.std.proofs.Common.{◌≡◌, take, filter}
use Rattle.service_control.specs.Needed.{is_off}
use Rattle.service_control.proofs.needed.those_off.Given as goal

abbrev pub invariant-loop-need : goal.invariant-loop-need
invariant-loop-need l = l.off ≡ filter (is_off l.started) (take l.need-index l.needs)

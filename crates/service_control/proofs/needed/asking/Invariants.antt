use Rattle.std.proofs.Common.{◌≡◌, take, map}
use Rattle.service_control.specs.Needed.{asks}
use Rattle.service_control.proofs.needed.asking.Given as goal

abbrev pub invariant-loop-need : goal.invariant-loop-need
invariant-loop-need l = l.made ≡ map (asks l.started l.name) (take l.need-index l.table)

use Rattle.std.proofs.Common.{◌≡◌, ◌++◌, take}
use Rattle.device_rule.specs.Devices.{loads}
use Rattle.device_rule.proofs.stack.put_loads.Given as goal

abbrev pub invariant-loop-name : goal.invariant-loop-name
invariant-loop-name l = l.lines ≡ l.initial.lines ++ loads l.services l.role (take l.name-index l.names)

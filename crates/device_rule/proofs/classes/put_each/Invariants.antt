use Rattle.std.proofs.Common.{◌≡◌, ◌++◌, take}
use Rattle.device_rule.specs.Classes.{filter_lines}
use Rattle.device_rule.proofs.classes.put_each.Given as goal

abbrev pub invariant-loop-name : goal.invariant-loop-name
invariant-loop-name l = l.lines ≡ l.initial.lines ++ filter_lines l.services l.of l.role l.key (take l.name-index l.names)

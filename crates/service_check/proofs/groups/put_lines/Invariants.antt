use Rattle.std.proofs.Common.{◌≡◌, ◌++◌, take, map}
use Rattle.service_check.specs.Check.{group_line}
use Rattle.service_check.proofs.groups.put_lines.Given as goal

abbrev pub invariant-loop-group : goal.invariant-loop-group
invariant-loop-group l = l.lines ≡ l.initial.lines ++ map (group_line l.groups) (take l.group-index l.first)

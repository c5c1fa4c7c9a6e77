use Rattle.std.proofs.Common.{◌≡◌, ◌++◌, map, take}
use Rattle.why_lacks.specs.why_lacks.Lacks.{member_line}
use Rattle.why_lacks.proofs.why_lacks.names.push_members.Given as goal

abbrev pub invariant-loop-name : goal.invariant-loop-name
invariant-loop-name l = l.lines ≡ l.initial.lines ++ map (member_line l.needs l.at l.view) (take l.name-index l.names)

use Rattle.std.proofs.Common.{◌≡◌, ◌++◌, map, take}
use Rattle.why_lacks.specs.why_lacks.Lacks.{key_at}
use Rattle.why_lacks.proofs.why_lacks.entries.push_group_keys.Given as goal

abbrev pub invariant-loop-group : goal.invariant-loop-group
invariant-loop-group l = l.keys ≡ l.initial.keys ++ map (key_at l.at) (take l.group-index l.groups)

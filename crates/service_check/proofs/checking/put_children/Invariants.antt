use Rattle.std.proofs.Common.{◌≡◌, ◌++◌, take}
use Rattle.std.specs.List.{flat_map}
use Rattle.service_check.specs.Check.{child_lines}
use Rattle.service_check.proofs.checking.put_children.Given as goal

abbrev pub invariant-loop-key : goal.invariant-loop-key
invariant-loop-key l = l.lines ≡ l.initial.lines ++ flat_map (child_lines l.scope) (take l.key-index l.keys)

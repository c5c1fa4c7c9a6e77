use Rattle.std.proofs.Common.{◌≡◌, ◌++◌, take, map}
use Rattle.service_control.specs.Causes.{by_group}
use Rattle.service_control.proofs.causes.add_groups.Given as goal

abbrev pub invariant-loop-group : goal.invariant-loop-group
invariant-loop-group l = l.causes ≡ l.initial.causes ++ map (by_group l.need) (take l.group-index l.groups)

use Rattle.std.proofs.Common.{◌≡◌, take}
use Rattle.set_diff.specs.Sets.{group_names}
use Rattle.set_diff.proofs.groups.group_names.Given as goal

abbrev pub invariant-loop-group : goal.invariant-loop-group
invariant-loop-group l = l.names ≡ group_names (take l.group-index l.groups)

use Rattle.std.proofs.Common.{◌≡◌, ◌++◌, take}
use Rattle.std.specs.List.{flat_map}
use Rattle.set_diff.specs.Sets.{paired_tags}
use Rattle.set_diff.proofs.groups.put_tags.Given as goal

abbrev pub invariant-loop-group : goal.invariant-loop-group
invariant-loop-group l = l.lines ≡ l.initial.lines ++ flat_map (paired_tags l.others) (take l.group-index l.groups)

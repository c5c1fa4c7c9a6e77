use Rattle.std.proofs.Common.{◌≡◌, ◌++◌, take}
use Rattle.std.specs.List.{filter_map}
use Rattle.why_lacks.specs.why_cycle.Shared.{group_need}
use Rattle.why_lacks.proofs.why_cycle.shared.push_groups.Given as goal

abbrev pub invariant-loop-group : goal.invariant-loop-group
invariant-loop-group l = l.row ≡ l.initial.row ++ filter_map (group_need l.needs l.items.keys l.pairs.keys l.ways l.at) (take l.group-index l.groups)

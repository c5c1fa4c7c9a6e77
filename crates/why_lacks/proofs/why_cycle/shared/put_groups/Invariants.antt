use Rattle.std.proofs.Common.{◌≡◌, take}
use Rattle.std.specs.List.{filter_map}
use Rattle.indexmap.specs.IndexSet.{insert_all}
use Rattle.why_lacks.specs.why_items.Gone.{same_pair}
use Rattle.why_lacks.specs.why_cycle.Shared.{pair_of}
use Rattle.why_lacks.proofs.why_cycle.shared.put_groups.Given as goal

abbrev pub invariant-loop-group : goal.invariant-loop-group
invariant-loop-group l = l.pairs.keys ≡ insert_all same_pair l.initial.pairs.keys (filter_map (pair_of l.needs l.at) (take l.group-index l.groups))

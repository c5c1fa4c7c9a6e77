use Rattle.std.proofs.Common.{◌≡◌}
use Rattle.std.specs.List.{filter_map, range_with_len}
use Rattle.why_needs.specs.why_needs.Met.{group_at}
use Rattle.why_needs.proofs.why_needs.met.started_groups.Given as goal

abbrev pub invariant-loop-at : goal.invariant-loop-at
invariant-loop-at l = l.names ≡ filter_map (group_at l.run) (range_with_len 0 l.at)

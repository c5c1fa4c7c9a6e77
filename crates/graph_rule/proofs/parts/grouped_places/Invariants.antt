use Rattle.std.proofs.Common.{◌≡◌}
use Rattle.std.specs.List.{filter_map, range_with_len}
use Rattle.graph_rule.specs.Rows.{grouped_at}
use Rattle.graph_rule.proofs.parts.grouped_places.Given as goal

abbrev pub invariant-loop-at : goal.invariant-loop-at
invariant-loop-at l = l.out ≡ filter_map (grouped_at l.entries) (range_with_len 0 l.at)

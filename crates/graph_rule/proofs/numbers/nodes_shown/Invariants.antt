use Rattle.std.proofs.Common.{◌≡◌}
use Rattle.std.specs.List.{flat_map, range_with_len}
use Rattle.graph_rule.specs.Shown.{node_at}
use Rattle.graph_rule.proofs.numbers.nodes_shown.Given as goal

abbrev pub invariant-loop-at : goal.invariant-loop-at
invariant-loop-at l = l.out ≡ flat_map (node_at l.nodes l.numbers) (range_with_len 0 l.at)

use Rattle.std.proofs.Common.{◌≡◌, List, ℕ, map, take}
use Rattle.graph_rule.specs.Nodes.{group_node}
use Rattle.graph_rule.specs.Rows.{group_state}
use Rattle.graph_rule.proofs.whole.group_nodes.Given as goal

abbrev pub invariant-loop-group : goal.invariant-loop-group
invariant-loop-group l =
    l.nodes ≡ map (λ (group : List ℕ). group_node (group_state l.parts group) group) (take l.group-index l.group-items)

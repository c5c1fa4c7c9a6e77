use Rattle.std.proofs.Common.{◌≡◌, ◌+◌, ◌++◌, length}
use Rattle.why_text.specs.graph_text.Objects.{nodes_json}
use Rattle.why_text.proofs.graph_text.json.push_nodes.Given as goal

abbrev pub invariant-node : goal.invariant-node
invariant-node l = (l.out.items ++ nodes_json l.number l.rest ≡ l.initial.out.items ++ nodes_json 1 l.nodes)
    × (l.number + length l.rest ≡ 1 + length l.nodes)

abbrev pub decreases-node : goal.decreases-node
decreases-node l = length l.rest

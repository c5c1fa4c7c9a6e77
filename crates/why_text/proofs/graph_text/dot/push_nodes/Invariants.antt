use Rattle.std.proofs.Common.{◌≡◌, ◌+◌, ◌++◌, length}
use Rattle.why_text.specs.graph_text.Dot.{nodes_text}
use Rattle.why_text.proofs.graph_text.dot.push_nodes.Given as goal

abbrev pub invariant-node : goal.invariant-node
invariant-node l = (l.out.items ++ nodes_text l.place l.before l.number l.rest ≡ l.initial.out.items ++ nodes_text l.place l.before 1 l.nodes)
    × (l.number + length l.rest ≡ 1 + length l.nodes)

abbrev pub decreases-node : goal.decreases-node
decreases-node l = length l.rest

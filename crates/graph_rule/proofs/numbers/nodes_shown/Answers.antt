use Rattle.graph_rule.specs.Shown.{node_at}
use Rattle.graph_rule.proofs.GatherLemmas.{flat_more}
use Rattle.graph_rule.proofs.numbers.nodes_shown.Goals as goal

pub loop-at-preserved : goal.loop-at-preserved
loop-at-preserved c =
    flat_more (node_at c.args.nodes.now c.args.numbers.now) c.loop-at.at c.loop-at.out c.push_node.new.out c.loop-at.invariant
    c.in_ok-push_node.ensures

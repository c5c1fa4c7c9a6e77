use Rattle.graph_rule.specs.Shown.{edges_at}
use Rattle.graph_rule.proofs.GatherLemmas.{flat_more}
use Rattle.graph_rule.proofs.numbers.edges_shown.Goals as goal

pub loop-at-preserved : goal.loop-at-preserved
loop-at-preserved c =
    flat_more (edges_at c.args.whole.now c.args.numbers.now) c.loop-at.at c.loop-at.out c.push_edges.new.out c.loop-at.invariant
    c.in_ok-push_edges.ensures

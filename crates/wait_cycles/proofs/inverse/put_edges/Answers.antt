use Rattle.wait_cycles.proofs.InverseLemmas.{puts_more}
use Rattle.wait_cycles.proofs.inverse.put_edges.Goals as goal

pub loop-from-preserved : goal.loop-from-preserved
loop-from-preserved c =
    puts_more _ _ 0 _ _ _ _ c.loop-from-test.true c.loop-from.invariant c.in_ok-put_edge.ensures

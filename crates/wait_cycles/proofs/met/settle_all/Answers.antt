use Rattle.wait_cycles.proofs.MetLemmas.{settles_more}
use Rattle.wait_cycles.proofs.met.settle_all.Goals as goal

pub loop-at-preserved : goal.loop-at-preserved
loop-at-preserved c = record {
  settled = settles_more _ _ _ _ 0 _ _ _ _ _ _ c.loop-at-test.true c.loop-at.invariant.settled c.in_ok-settle.ensures.settled;
  firsts = c.in_ok-settle.ensures.firsts;
}

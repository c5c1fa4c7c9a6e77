use Rattle.service_control.proofs.CauseLemmas.{causes_more}
use Rattle.service_control.proofs.causes.causes.Goals as goal

pub loop-place-preserved : goal.loop-place-preserved
loop-place-preserved c =
    causes_more _ _ _ _ _ _ _ _ c.loop-place-test.true c.loop-place.invariant c.in_ok-more.ensures c.as_slice.ensures
    c.in_ok-add.ensures.needs c.in_ok-add.ensures.owners

use Rattle.least_set.proofs.MarkLemmas.{marks_more}
use Rattle.least_set.proofs.marks.mark_all.Goals as goal

pub loop-at-preserved : goal.loop-at-preserved
loop-at-preserved c =
    marks_more _ _ 0 _ _ _ _ _ _ c.loop-at-test.true c.loop-at.invariant c.in_ok-mark.ensures

use Rattle.why_lacks.proofs.SharedLemmas.{ones_more}
use Rattle.why_lacks.proofs.why_cycle.shared.push_ones.Goals as goal

pub loop-place-preserved : goal.loop-place-preserved
loop-place-preserved c =
    ones_more c.loop-place.place c.in_ok-one.field-0 c.args.rows.now.items c.loop-place.rows.items c.push.new.self.items c.in_ok-one.ensures
    c.loop-place.invariant c.in_ok-push.ensures.items

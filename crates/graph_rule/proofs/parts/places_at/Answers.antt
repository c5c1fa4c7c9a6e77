use Rattle.std.specs.Prelude.{slice_get}
use Rattle.why_needs.proofs.TakeLemmas.{taken_at}
use Rattle.graph_rule.proofs.parts.places_at.Goals as goal

pub loop-place-preserved : goal.loop-place-preserved
loop-place-preserved c =
    taken_at (slice_get c.args.places.now) c.args.at.now c.loop-place.place-index 0 c.loop-place.out c.push_place.new.out
    c.loop-place-test.true c.loop-place.invariant c.in_ok-push_place.ensures

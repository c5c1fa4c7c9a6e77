use Rattle.why_needs.proofs.TakeLemmas.{taken_more}
use Rattle.why_needs.specs.why_state.States.{place_in}
use Rattle.why_answer.proofs.why_pulled.namers.registry_places.Goals as goal

pub loop-name-preserved : goal.loop-name-preserved
loop-name-preserved c =
    taken_more (place_in c.args.names.now) c.args.order.now c.loop-name.name-index c.name-item.result c.loop-name.places
    c.push_place.new.places c.loop-name-test.true c.name-item.is c.loop-name.invariant c.in_ok-push_place.ensures

use Rattle.failure_effects.proofs.OffLemmas.{off_told}
use Rattle.failure_effects.proofs.reading.ReadTaken.play_off.Goals as goal

pub returns-in-Some-clause-told : goal.returns-in-Some-clause-told
returns-in-Some-clause-told c =
    let self = c.self.inside in
    off_told c.play_with_off.result self.taken.now c.args.self.now self.lists c.args.name.now c.in_ok-place.field-0
    c.in-Some.place c.self.view_is c.self.invariant.0 c.self.invariant.1 c.in_ok-place.ensures c.in-Some.is
    c.play_with_off.ensures.told

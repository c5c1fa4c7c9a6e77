use Rattle.salvage_walk.proofs.LooseLemmas.{last-one}
use Rattle.salvage_walk.proofs.claims.last_before.Goals as goal

pub returns-in-Some : goal.returns-in-Some
returns-in-Some c =
    let h = c.range-before.ensures.in_range tt in
    let last = h.3 _ _ c.in-Some.ensures.steps in
    last-one c.args.loose.now c.args.place c.in-Some.at.now c.in-Some.end.now last.0.1 last.1
    (λ q l s. h.4 _ _ c.in-Some.ensures.steps q (tt, l) s)

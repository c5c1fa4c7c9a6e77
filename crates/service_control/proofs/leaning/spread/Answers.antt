use Rattle.std.proofs.Common.{refl, arith}
use Rattle.std.proofs.lemmas.Grind.{common_steps}
use Rattle.service_control.proofs.SpreadLemmas.{spread_start, spread_more, spread_end, at_within, owner_within}
use Rattle.service_control.proofs.leaning.spread.Goals as goal

pub spread-init : goal.spread-init
spread-init c = spread_start _ _ _ _ _ _ _ c.requires.causes c.requires.on c.in_ok-seed.ensures c.in_ok-waiting.ensures
    (grind (arith, common_steps))

pub take_owner-requires-clause-at : goal.take_owner-requires-clause-at
take_owner-requires-clause-at c = at_within _ _ _ _ _ _ c.spread.invariant c.in-Some.ensures.place

pub take_owner-requires-clause-owner : goal.take_owner-requires-clause-owner
take_owner-requires-clause-owner c = owner_within _ _ _ _ _ _ c.spread.invariant c.in-Some.ensures.place

pub spread-preserved : goal.spread-preserved
spread-preserved c = spread_more _ _ _ _ _ _ _ _ _ c.spread.invariant c.in-Some.ensures.place c.tried.ensures.state refl
    c.take_owner.ensures

pub returns-in-None : goal.returns-in-None
returns-in-None c = spread_end _ _ _ _ _ c.spread.invariant c.in-None.ensures.place

use Rattle.std.proofs.Common.{sym, arith}
use Rattle.std.proofs.lemmas.Bool.{eqb-false}
use Rattle.std.proofs.lemmas.List.{get_or_read}
use Rattle.dependencies.proofs.FirstLemmas.{root_some, root_none}
use Rattle.dependencies.proofs.place_set.PlaceSet.first.Goals as goal

pub returns-then-first-len-clause-place : goal.returns-then-first-len-clause-place
returns-then-first-len-clause-place c =
    let inside = c.self.inside in
    let is = get_or_read inside.firsts.items 1 c.index-first.result.now (omega (arith, c.self.invariant.len))
    c.index-first.ensures 0 in
    rw (← c.self.view_is) (root_some inside.set.items inside.firsts.items c.index-first.result.now c.self.invariant is
    (omega arith) (omega arith))

pub returns-else-first-len-clause-place : goal.returns-else-first-len-clause-place
returns-else-first-len-clause-place c =
    let inside = c.self.inside in
    let some = eqb-false _ _ (sym c.if-is_empty.ensures) in
    let is = get_or_read inside.firsts.items 1 c.index-first.result.now (omega (arith, some, c.self.invariant.len))
    c.index-first.ensures 0 in
    rw (← c.self.view_is) (root_none inside.set.items inside.firsts.items c.index-first.result.now c.self.invariant is
    (omega arith))

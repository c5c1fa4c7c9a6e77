use Rattle.std.proofs.Common.{◌≡◌, ◌≤◌, ◌++◌, ◌∷◌, [], length, take, sym, ap, subst, ◌∙◌, arith}
use Rattle.std.proofs.lemmas.List.{take-append-le}
use Rattle.salvage_walk.specs.Placed.{AreOnce}
use Rattle.salvage_walk.specs.LooseEnds.{LooseEnds}
use Rattle.salvage_walk.proofs.LooseLemmas.{loose-pop, once-front, once-last}
use Rattle.salvage_walk.proofs.claims.take_back.Goals as goal

pub claims-preserved : goal.claims-preserved
claims-preserved c =
    let i = c.claims.invariant in
    let front = c.pop.new.self.items in
    let e : c.claims.claims.items ≡ front ++ c.in-Some.claim ∷ [] = c.in-Some.ensures.items in
    let fits : c.args.len ≤ length front = omega (arith, c.claims-test.true, c.len.ensures, c.in-Some.ensures.len) in
    let once = subst AreOnce e i.once in
    record {
      front = sym (take-append-le c.args.len front (c.in-Some.claim ∷ []) fits) ∙ ap (take c.args.len) (sym e)
          ∙ i.front;
      once = once-front front c.in-Some.claim once;
      ends = loose-pop c.claims.loose c.drop_loose.new.loose front c.in-Some.claim c.drop_loose.ensures
          (once-last front c.in-Some.claim once) (subst (LooseEnds c.claims.loose) e i.ends);
    }

use Rattle.salvage_walk.proofs.PlacedLemmas.{placed-take}
use Rattle.salvage_walk.proofs.claims.Used.back_to.Goals as goal

pub invariant_of-self : goal.invariant_of-self
invariant_of-self c = record {
  placed = placed-take c.self.inside.places c.self.inside.claims.items c.take_back.new.claims.items c.args.len
      c.take_back.ensures.kept c.self.invariant.placed;
  loose = c.take_back.ensures.ends;
}

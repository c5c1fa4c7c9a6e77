use Rattle.std.proofs.Common.{ℕ, Some, ap, subst, ◌∙◌}
use Rattle.std.specs.Ordering.{nat_cmp}
use Rattle.std.specs.BTreeMap.{Updates}
use Rattle.salvage_walk.specs.Uses.{claim_of, overlaps}
use Rattle.salvage_walk.proofs.PlacedLemmas.{placed-same, placed-noted, placed-step}
use Rattle.salvage_walk.proofs.LooseLemmas.{loose-same, loose-step}
use Rattle.salvage_walk.proofs.claims.Used.push.Goals as goal

pub invariant_of-self : goal.invariant_of-self
invariant_of-self c = record {
  placed = placed-same c.self.inside.places c.put.new.places c.self.inside.claims.items c.in_err-put.ensures.err
      c.self.invariant.placed;
  loose = c.self.invariant.loose;
}

pub invariant_of-self-in_err-put_loose : goal.invariant_of-self-in_err-put_loose
invariant_of-self-in_err-put_loose c = record {
  placed = placed-noted c.self.inside.places c.put.new.places c.self.inside.claims.items c.args.claim
      (subst (λ (n : ℕ). Updates nat_cmp c.self.inside.places c.put.new.places c.args.claim.at (Some n))
      c.count_of-place.ensures c.in_ok-put.ensures.ok)
      (ap (claim_of c.args.claim.at) c.self.view_is ∙ c.requires.fresh) c.self.invariant.placed;
  loose = loose-same c.self.inside.loose c.put_loose.new.loose c.self.inside.claims.items c.in_err-put_loose.ensures.err
      c.self.invariant.loose;
}

pub invariant_of-self-2 : goal.invariant_of-self-2
invariant_of-self-2 c = record {
  placed = placed-step c.self.inside.places c.put.new.places c.self.inside.claims.items
      c.append.new.claims.items c.args.claim c.append.result
      (subst (λ (n : ℕ). Updates nat_cmp c.self.inside.places c.put.new.places c.args.claim.at (Some n))
      c.count_of-place.ensures c.in_ok-put.ensures.ok)
      (ap (claim_of c.args.claim.at) c.self.view_is ∙ c.requires.fresh) c.append.ensures.ok c.append.ensures.err
      c.self.invariant.placed;
  loose = loose-step c.self.inside.loose c.put_loose.new.loose c.append.new.loose c.self.inside.claims.items
      c.append.new.claims.items c.args.claim c.append.result c.in_ok-put_loose.ensures.ok
      (ap (claim_of c.args.claim.at) c.self.view_is ∙ c.requires.fresh) c.requires.long
      (λ l. ap (overlaps c.args.claim.at c.args.claim.end) c.self.view_is ∙ c.requires.apart l)
      c.append.ensures.ok c.append.ensures.noted c.append.ensures.err c.append.ensures.forgotten c.self.invariant.loose;
}

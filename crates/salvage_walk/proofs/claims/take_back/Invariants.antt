use Rattle.std.proofs.Common.{◌≡◌, length, take}
use Rattle.salvage_walk.specs.Placed.{AreOnce}
use Rattle.salvage_walk.specs.LooseEnds.{LooseEnds}
use Rattle.salvage_walk.proofs.claims.take_back.Given as goal

abbrev pub invariant-claims : goal.invariant-claims
invariant-claims l = record {
  front : take l.len l.claims.items ≡ take l.len l.fn.claims.items;
  once : AreOnce l.claims.items;
  ends : LooseEnds l.loose l.claims.items;
}

abbrev pub decreases-claims : goal.decreases-claims
decreases-claims l = length l.claims.items

use Rattle.std.specs.BTreeMap.{BTreeMap, btree_map_len}
use Rattle.std.proofs.Common.{ℕ, List}
use Rattle.salvage_walk.specs.declared.claims.Claim.{Claim}
use Rattle.salvage_walk.specs.Remembered.{AreWatched}
use Rattle.salvage_walk.proofs.lists.forget.Given as goal

abbrev pub decreases-watches : goal.decreases-watches
decreases-watches l = btree_map_len l.watches

abbrev pub invariant-watches : goal.invariant-watches
invariant-watches l = record {
  kept : (claims : List Claim) (lists : BTreeMap ℕ (List Claim)) → AreWatched claims lists l.fn.least l.fn.watches
      → AreWatched claims lists l.least l.watches;
}

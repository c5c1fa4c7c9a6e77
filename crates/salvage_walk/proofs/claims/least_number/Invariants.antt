use Rattle.std.proofs.Common.{◌≡◌, ℕ, ◌-◌, ◌<◌, ◌≤◌, Some}
use Rattle.std.specs.Ordering.{nat_cmp}
use Rattle.std.specs.BTreeMap.{get}
use Rattle.salvage_walk.proofs.claims.least_number.Given as goal

abbrev pub decreases-places : goal.decreases-places
decreases-places l = l.end - l.next

abbrev pub invariant-places : goal.invariant-places
invariant-places l = record {
  few : l.least ≤ l.bound;
  least : (at number : ℕ) → l.from ≤ at → at < l.next → get nat_cmp l.places at ≡ Some number → l.least ≤ number;
}

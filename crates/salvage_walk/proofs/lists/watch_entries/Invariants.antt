use Rattle.std.proofs.Common.{◌≡◌, ◌<◌, ◌≤◌, ℕ, Some, length}
use Rattle.std.specs.Prelude.{slice_get}
use Rattle.salvage_walk.specs.declared.claims.Claim.{Claim}
use Rattle.salvage_walk.specs.Clear.{IsClear}
use Rattle.salvage_walk.specs.Remembered.{IsWatched, KeepsOthers}
use Rattle.salvage_walk.proofs.lists.watch_entries.Given as goal

abbrev pub decreases-entries : goal.decreases-entries
decreases-entries l = l.number

abbrev pub invariant-entries : goal.invariant-entries
invariant-entries l = record {
  clear : (i : ℕ) (s : Claim) → l.number ≤ i → i < l.least → slice_get l.list i ≡ Some s → IsClear l.used s;
  watched : (i : ℕ) (s : Claim) → l.number ≤ i → i < l.least → slice_get l.list i ≡ Some s → IsWatched l.watches l.at i s.at;
  others : KeepsOthers l.at l.fn.watches l.watches;
  few : l.number ≤ length l.list;
  least : l.least ≤ length l.list;
}

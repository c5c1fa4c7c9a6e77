use Rattle.std.proofs.Common.{◌≡◌, ◌≤◌, ◌-◌, ℕ}
use Rattle.salvage_bins.specs.Ground.{ground_of}
use Rattle.salvage_parents.specs.Naming.{listed, naming}
use Rattle.salvage_parents.proofs.index.index_of.Given as goal

abbrev pub decreases-slots : goal.decreases-slots
decreases-slots l = l.slots - l.slot

abbrev pub invariant-slots : goal.invariant-slots
invariant-slots l = record {
  so_far : (p : ℕ) → listed l.index p ≡ naming (ground_of l.cells) p l.slot;
  within : l.slot ≤ l.slots;
}

use Rattle.std.proofs.Common.{◌≡◌, ◌+◌, ◌*◌, ◌≤◌, length}
use Rattle.salvage_bins.specs.Whole.{cell_marks}
use Rattle.salvage_bins.proofs.LayoutLemmas.{after}
use Rattle.salvage_bins.proofs.whole.cells_in.Given as goal

abbrev pub invariant-slots : goal.invariant-slots
invariant-slots l = record {
  inside : 8 * l.left ≤ length l.rest;
  small : l.place + length l.rest ≤ 268435456;
  read : after l.marks.items (cell_marks l.left l.covered l.place l.rest) ≡ cell_marks l.slots 0 l.at l.bytes;
}

abbrev pub decreases-slots : goal.decreases-slots
decreases-slots l = l.left

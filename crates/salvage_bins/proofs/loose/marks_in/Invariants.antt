use Rattle.std.proofs.Common.{◌≡◌, ◌*◌, ◌≤◌, ◌++◌, length}
use Rattle.salvage_bins.specs.Loose.{loose_marks}
use Rattle.salvage_bins.proofs.loose.marks_in.Given as goal

abbrev pub invariant-slots : goal.invariant-slots
invariant-slots l = record {
  small : length l.rest ≤ 268435456;
  inside : 8 * l.left ≤ length l.rest;
  told : l.marks.items ++ loose_marks l.left l.rest ≡ loose_marks l.slots l.bytes;
}

abbrev pub decreases-slots : goal.decreases-slots
decreases-slots l = l.left

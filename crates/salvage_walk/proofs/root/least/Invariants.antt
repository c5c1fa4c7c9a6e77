use Rattle.std.proofs.Common.{◌≡◌, ◌+◌, ◌*◌, ◌/◌, length}
use Rattle.salvage_bins.specs.Ground.{ground_of}
use Rattle.salvage_walk.specs.Keys.{least_root}
use Rattle.salvage_walk.proofs.root.least.Given as goal

abbrev pub invariant-places : goal.invariant-places
invariant-places l = record {
  told : least_root (ground_of l.cells) l.left l.at ≡ least_root (ground_of l.cells) (ground_of l.cells).slots 0;
  place : l.at + 8 * l.left ≡ 8 * (length l.cells.bytes.now / 8);
}

abbrev pub decreases-places : goal.decreases-places
decreases-places l = l.left

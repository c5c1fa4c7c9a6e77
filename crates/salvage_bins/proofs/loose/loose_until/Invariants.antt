use Rattle.std.proofs.Common.{◌≡◌, ◌+◌, ◌*◌, ◌/◌, length}
use Rattle.salvage_bins.specs.Loose.{loose_length}
use Rattle.salvage_bins.proofs.loose.loose_until.Given as goal

abbrev pub invariant-pages : goal.invariant-pages
invariant-pages l = record {
  told : loose_length l.left l.from l.fault l.at l.bytes ≡ loose_length (length l.bytes / 4096) 4096 l.fault l.at l.bytes;
  place : l.from + 4096 * l.left ≡ 4096 + 4096 * (length l.bytes / 4096);
}

abbrev pub decreases-pages : goal.decreases-pages
decreases-pages l = l.left

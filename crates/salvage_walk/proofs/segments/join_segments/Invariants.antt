use Rattle.std.proofs.Common.{◌≡◌, ◌≤◌, ◌*◌, ◌++◌, length}
use Rattle.hive_model.specs.Lists.{numbers_in}
use Rattle.salvage_bins.specs.Ground.{ground_of}
use Rattle.salvage_walk.specs.Segments.{segments_there}
use Rattle.salvage_walk.proofs.segments.join_segments.Given as goal

abbrev pub decreases-segments : goal.decreases-segments
decreases-segments l = l.number

abbrev pub invariant-segments : goal.invariant-segments
invariant-segments l = record {
  so_far : l.bytes ++ segments_there (ground_of l.cells) l.left (numbers_in 4 l.number l.rest)
      ≡ segments_there (ground_of l.cells) l.size (numbers_in 4 l.count l.entries);
  inside : 4 * l.number ≤ length l.rest;
}

use Rattle.std.proofs.Common.{◌≡◌, ◌≤◌, ◌*◌, length}
use Rattle.hive_model.specs.Lists.{numbers_in}
use Rattle.salvage_bins.specs.Ground.{ground_of}
use Rattle.salvage_walk.specs.Segments.{segments_used}
use Rattle.salvage_walk.specs.Walked.{Before}
use Rattle.salvage_walk.proofs.segments.use_segments.Given as goal

abbrev pub decreases-segments : goal.decreases-segments
decreases-segments l = l.number

abbrev pub invariant-segments : goal.invariant-segments
invariant-segments l = record {
  told : segments_used (ground_of l.cells) l.left (numbers_in 4 l.number l.rest) l.used
      ≡ segments_used (ground_of l.cells) l.size (numbers_in 4 l.count l.entries) l.fn.used;
  before : Before l.fn.used l.used;
  inside : 4 * l.number ≤ length l.rest;
}

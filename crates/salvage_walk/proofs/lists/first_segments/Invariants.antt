use Rattle.std.proofs.Common.{◌≡◌, ◌*◌, [], length, drop}
use Rattle.hive_model.specs.Lists.{numbers_in}
use Rattle.salvage_bins.specs.Ground.{ground_of}
use Rattle.salvage_walk.specs.Clear.{Stand}
use Rattle.salvage_walk.specs.Remembered.{AreFull}
use Rattle.salvage_walk.proofs.lists.first_segments.Given as goal

abbrev pub decreases-segments : goal.decreases-segments
decreases-segments l = length l.rest

abbrev pub invariant-segments : goal.invariant-segments
invariant-segments l = record {
  stand : Stand (ground_of l.cells) [] (numbers_in 4 (length l.list) l.payload) l.list;
  full : AreFull l.list;
  rest : l.rest ≡ drop (4 * length l.list) l.payload;
}

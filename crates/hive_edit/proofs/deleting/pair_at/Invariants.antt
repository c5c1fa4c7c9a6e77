use Rattle.std.proofs.Common.{◌≡◌, length}
use Rattle.hive_cells.specs.Sources.{cells_of}
use Rattle.hive_look.specs.Places.{IsKeyAt}
use Rattle.hive_edit.specs.Deleting.{pair_from, pair_place}
use Rattle.hive_edit.proofs.deleting.pair_at.Given as goal

abbrev pub invariant-path : goal.invariant-path
invariant-path l = record {
  place : pair_from (cells_of l.cells) l.rest l.above l.at ≡ pair_place (cells_of l.cells) l.path l.root;
  here : IsKeyAt (cells_of l.cells) l.at;
}

abbrev pub decreases-path : goal.decreases-path
decreases-path l = length l.rest

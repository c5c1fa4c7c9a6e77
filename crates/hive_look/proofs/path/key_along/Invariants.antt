use Rattle.std.proofs.Common.{◌≡◌, length}
use Rattle.hive_model.specs.Footprint.{key_place}
use Rattle.hive_cells.specs.Sources.{cells_of}
use Rattle.hive_look.specs.Places.{IsKeyAt}
use Rattle.hive_look.proofs.path.key_along.Given as goal

abbrev pub invariant-path : goal.invariant-path
invariant-path l = record {
  place : key_place (cells_of l.cells) l.rest l.at ≡ key_place (cells_of l.cells) l.path l.root;
  here : IsKeyAt (cells_of l.cells) l.at;
}

abbrev pub decreases-path : goal.decreases-path
decreases-path l = length l.rest

use Rattle.std.proofs.Common.{◌≡◌, ◌≤◌, ◌*◌, length}
use Rattle.std.specs.Prelude.{find}
use Rattle.std.specs.List.{All}
use Rattle.hive_model.specs.Lists.{numbers_in}
use Rattle.hive_model.specs.Footprint.{is_value_named}
use Rattle.hive_cells.specs.Sources.{cells_of}
use Rattle.hive_look.specs.Places.{IsItemHere}
use Rattle.hive_look.proofs.values.find_value.Given as goal

abbrev pub invariant-loop-left : goal.invariant-loop-left
invariant-loop-left l = record {
  place : find (is_value_named (cells_of l.cells) l.name) (numbers_in 4 l.left l.rest)
      ≡ find (is_value_named (cells_of l.cells) l.name) (numbers_in 4 l.count l.list);
  inside : 4 * l.left ≤ length l.rest;
  values : All (IsItemHere (cells_of l.cells)) (numbers_in 4 l.left l.rest);
}

abbrev pub decreases-loop-left : goal.decreases-loop-left
decreases-loop-left l = l.left

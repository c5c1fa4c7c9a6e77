use Rattle.std.proofs.Common.{◌≡◌, ◌≤◌, ◌*◌, ◌++◌, length}
use Rattle.std.specs.List.{All}
use Rattle.hive_model.specs.Lists.{numbers_in}
use Rattle.hive_cells.specs.Sources.{cells_of}
use Rattle.edited_cells.specs.Revalues.{cells_of_values}
use Rattle.edited_cells.specs.Uses.{plain}
use Rattle.hive_look.specs.Places.{IsItemHere}
use Rattle.hive_look.proofs.uses.push_listed.Given as goal

abbrev pub invariant-loop-left : goal.invariant-loop-left
invariant-loop-left l = record {
  so_far : l.uses.items ++ plain (cells_of_values (cells_of l.cells) (numbers_in 4 l.left l.rest)) ≡ l.fn.uses.items
      ++ plain (cells_of_values (cells_of l.cells) (numbers_in 4 l.count l.list));
  inside : 4 * l.left ≤ length l.rest;
  values : All (IsItemHere (cells_of l.cells)) (numbers_in 4 l.left l.rest);
}

abbrev pub decreases-loop-left : goal.decreases-loop-left
decreases-loop-left l = l.left

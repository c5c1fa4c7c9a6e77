use Rattle.std.proofs.Common.{◌-◌, ◌%◌, ◌≤◌, ◌≡◌, Bool, List}
use Rattle.hive_cells.specs.Reading.{CellsRead}
use Rattle.hive_cells.proofs.read.check_bin.Given as goal

abbrev pub invariant-cells : goal.invariant-cells
invariant-cells l = record {
  read : (old : List Bool) → (new : List Bool) × CellsRead l.at l.rest old new l.total l.cell;
  within : l.cell ≤ l.total;
  whole : l.cell % 8 ≡ 0;
}

abbrev pub decreases-cells : goal.decreases-cells
decreases-cells l = l.total - l.cell

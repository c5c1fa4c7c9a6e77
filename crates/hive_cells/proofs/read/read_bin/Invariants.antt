use Rattle.std.proofs.Common.{◌≡◌, ◌+◌, ◌-◌, ◌/◌, ◌%◌, ◌≤◌, length, take, drop, replicate, false}
use Rattle.hive_cells.specs.Reading.{CellsRead}
use Rattle.hive_cells.proofs.read.read_bin.Given as goal

abbrev pub invariant-cells : goal.invariant-cells
invariant-cells l = record {
  read : CellsRead l.at l.rest (take (l.at / 8) l.fn.starts.items) (take (l.slot + l.cell / 8) l.starts.items) l.total
      l.cell;
  off : drop (l.slot + l.cell / 8) l.starts.items ≡ replicate ((length l.rest - l.cell) / 8) false;
  within : l.cell ≤ l.total;
  whole : l.cell % 8 ≡ 0;
}

abbrev pub decreases-cells : goal.decreases-cells
decreases-cells l = l.total - l.cell

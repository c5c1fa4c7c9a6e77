use Rattle.std.proofs.Common.{◌≡◌, ◌-◌, length}
use Rattle.hive_cells.specs.Changes.{MarkedSoFar}
use Rattle.hive_cells.proofs.marks.mark_run.Given as goal

abbrev pub invariant-cells : goal.invariant-cells
invariant-cells l = record {
  marked : MarkedSoFar l.fn.starts.items l.run l.slot l.starts.items l.at;
  long : length l.starts.items ≡ length l.fn.starts.items;
}

abbrev pub decreases-cells : goal.decreases-cells
decreases-cells l = length l.run - l.at

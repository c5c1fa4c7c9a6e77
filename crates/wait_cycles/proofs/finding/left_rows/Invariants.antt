use Rattle.std.proofs.Common.{◌≡◌, take}
use Rattle.wait_cycles.specs.Graph.{left_rows}
use Rattle.wait_cycles.proofs.finding.left_rows.Given as goal

abbrev pub invariant-loop-row : goal.invariant-loop-row
invariant-loop-row l = l.left.items ≡ left_rows l.marks (take l.row-index l.rows)

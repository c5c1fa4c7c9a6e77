use Rattle.std.proofs.Common.{◌≡◌, map, take}
use Rattle.service_check.specs.Vertices.{entry_ids}
use Rattle.service_check.proofs.waits.entry_rows.Given as goal

abbrev pub invariant-loop-row : goal.invariant-loop-row
invariant-loop-row l = l.rows.items ≡ map (entry_ids l.table l.bases) (take l.row-index l.table)

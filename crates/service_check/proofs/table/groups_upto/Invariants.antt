use Rattle.std.proofs.Common.{◌≡◌, take}
use Rattle.service_check.specs.Needs.{groups_upto}
use Rattle.service_check.proofs.table.groups_upto.Given as goal

abbrev pub invariant-loop-row : goal.invariant-loop-row
invariant-loop-row l = l.groups ≡ groups_upto l.stage (take l.row-index l.rows)

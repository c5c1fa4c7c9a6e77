use Rattle.std.proofs.Common.{◌≡◌, take}
use Rattle.service_check.specs.Needs.{names_of}
use Rattle.service_check.proofs.table.names_of.Given as goal

abbrev pub invariant-loop-row : goal.invariant-loop-row
invariant-loop-row l = l.names ≡ names_of (take l.row-index l.rows)

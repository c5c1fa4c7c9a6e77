use Rattle.service_check.specs.Grouped.{AreGrouped}
use Rattle.service_check.proofs.waits.member_rows.Given as goal

abbrev pub invariant-loop-place : goal.invariant-loop-place
invariant-loop-place l = AreGrouped l.rows l.stage l.groups l.place l.ways.items

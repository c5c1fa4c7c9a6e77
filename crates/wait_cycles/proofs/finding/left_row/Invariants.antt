use Rattle.std.proofs.Common.{◌≡◌, not, filter, take}
use Rattle.start_model.specs.Demand.{member}
use Rattle.wait_cycles.proofs.finding.left_row.Given as goal

abbrev pub invariant-loop-at : goal.invariant-loop-at
invariant-loop-at l = l.left ≡ filter (λ v. not (member l.marks v)) (take l.at-index l.row)

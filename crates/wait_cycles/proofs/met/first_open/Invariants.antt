use Rattle.std.proofs.Common.{◌≡◌, ◌-◌, true, length, take}
use Rattle.std.specs.List.{list_all}
use Rattle.start_model.specs.Demand.{member}
use Rattle.wait_cycles.proofs.met.first_open.Given as goal

abbrev pub invariant-first : goal.invariant-first
invariant-first l = list_all (member l.marks) (take l.first l.row) ≡ true

abbrev pub decreases-first : goal.decreases-first
decreases-first l = length l.row - l.first

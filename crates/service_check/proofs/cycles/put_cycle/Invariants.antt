use Rattle.std.proofs.Common.{◌≡◌, ◌++◌, map, take}
use Rattle.service_check.specs.Check.{cycle_line}
use Rattle.service_check.proofs.cycles.put_cycle.Given as goal

abbrev pub invariant-loop-place : goal.invariant-loop-place
invariant-loop-place l = l.lines ≡ l.initial.lines ++ map (cycle_line l.table l.number) (take l.place-index l.places)

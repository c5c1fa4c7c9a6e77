use Rattle.std.proofs.Common.{◌≡◌, ◌++◌}
use Rattle.std.specs.List.{flat_map, range_with_len}
use Rattle.service_check.specs.Check.{lines_of_cycle}
use Rattle.service_check.proofs.cycles.put_all.Given as goal

abbrev pub invariant-loop-at : goal.invariant-loop-at
invariant-loop-at l = l.lines ≡ l.initial.lines ++ flat_map (lines_of_cycle l.table l.cycles) (range_with_len 0 l.at)

use Rattle.std.proofs.Common.{◌≡◌, map, take}
use Rattle.std.specs.Prelude.{min}
use Rattle.reg_tree.specs.Makes.{step_of}
use Rattle.hive_edit.specs.Steps.{values_set}
use Rattle.hive_edit.proofs.strain.count_sets.Given as goal

abbrev pub invariant-loop-step : goal.invariant-loop-step
invariant-loop-step l =
    l.sets ≡ min (values_set (map step_of (take l.step-index l.steps))) 18446744073709551615

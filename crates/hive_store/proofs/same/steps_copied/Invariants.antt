use Rattle.std.proofs.Common.{◌≡◌, map, take}
use Rattle.reg_tree.specs.Makes.{step_of}
use Rattle.hive_store.proofs.same.steps_copied.Given as goal

abbrev pub invariant-loop-step : goal.invariant-loop-step
invariant-loop-step l = map step_of l.copied ≡ map step_of (take l.step-index l.steps)

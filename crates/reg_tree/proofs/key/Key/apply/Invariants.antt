use Rattle.std.proofs.Common.{◌≡◌, length, map}
use Rattle.std.specs.Vec.Iter.{into_iter_items}
use Rattle.hive_model.specs.Edit.{after_steps}
use Rattle.reg_tree.specs.Makes.{step_of}
use Rattle.reg_tree.proofs.key.Key.apply.Given as goal

abbrev pub invariant-steps : goal.invariant-steps
invariant-steps l = after_steps l.work (map step_of (into_iter_items l.rest))
    ≡ after_steps l.self (map step_of l.fn.steps)

abbrev pub decreases-steps : goal.decreases-steps
decreases-steps l = length (into_iter_items l.rest)

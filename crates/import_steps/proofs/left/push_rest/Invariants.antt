use Rattle.std.proofs.Common.{◌≡◌, ◌++◌, length, map}
use Rattle.std.specs.Vec.Iter.{into_iter_items}
use Rattle.reg_tree.specs.Makes.{step_of}
use Rattle.import_steps.proofs.left.push_rest.Given as goal

abbrev pub invariant-steps : goal.invariant-steps
invariant-steps l = map step_of l.steps ++ map step_of (into_iter_items l.more)
    ≡ map step_of l.fn.steps ++ map step_of (into_iter_items l.fn.rest)

abbrev pub decreases-steps : goal.decreases-steps
decreases-steps l = length (into_iter_items l.more)

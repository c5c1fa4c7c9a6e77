use Rattle.std.proofs.Common.{◌≡◌, map, length}
use Rattle.std.specs.Vec.Iter.{into_iter_items}
use Rattle.reg_tree.specs.Makes.{step_of}
use Rattle.import_steps.specs.Current.{steps_in}
use Rattle.import_steps.proofs.SetLemmas.{ahead}
use Rattle.import_steps.proofs.current.steps_in.Given as goal

abbrev pub invariant-steps : goal.invariant-steps
invariant-steps l = ahead (map step_of l.made) (steps_in l.set (map step_of (into_iter_items l.rest)))
    ≡ steps_in l.set (map step_of l.fn.steps)

abbrev pub decreases-steps : goal.decreases-steps
decreases-steps l = length (into_iter_items l.rest)

use Rattle.std.proofs.Common.{◌≡◌, length, map}
use Rattle.hive_model.specs.Edit.{after_steps}
use Rattle.reg_tree.specs.Makes.{step_of}
use Rattle.tree_draft.proofs.drafting.make_steps.Given as goal

abbrev pub invariant-steps : goal.invariant-steps
invariant-steps l = after_steps l.work (map step_of l.rest) ≡ after_steps l.fn.work (map step_of l.fn.steps)

abbrev pub decreases-steps : goal.decreases-steps
decreases-steps l = length l.rest

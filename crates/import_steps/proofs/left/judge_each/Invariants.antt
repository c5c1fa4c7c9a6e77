use Rattle.std.proofs.Common.{◌+◌, ◌≤◌, length, map}
use Rattle.std.specs.Vec.Iter.{into_iter_items}
use Rattle.reg_tree.specs.Makes.{step_of}
use Rattle.import_steps.proofs.LeftLemmas.{Going}
use Rattle.import_steps.proofs.left.judge_each.Given as goal

abbrev pub invariant-steps : goal.invariant-steps
invariant-steps l = record {
  few : l.passed + length (into_iter_items l.rest) ≤ length l.fn.steps;
  made : Going l.tree l.marks (map step_of l.left) l.passed (map step_of (into_iter_items l.rest))
      (map step_of l.fn.steps);
}

abbrev pub decreases-steps : goal.decreases-steps
decreases-steps l = length (into_iter_items l.rest)

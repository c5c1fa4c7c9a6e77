use Rattle.std.proofs.Common.{◌≡◌, map, length}
use Rattle.hive_model.specs.Edit.{edited}
use Rattle.reg_tree.specs.Makes.{step_of}
use Rattle.hive_store.proofs.same.after_kept.Given as goal

abbrev pub invariant-steps : goal.invariant-steps
invariant-steps l = edited l.cells.version l.cells.tree (map step_of l.steps)
    ≡ edited l.cells.version l.cells.tree (map step_of l.rest)

abbrev pub decreases-steps : goal.decreases-steps
decreases-steps l = length l.rest

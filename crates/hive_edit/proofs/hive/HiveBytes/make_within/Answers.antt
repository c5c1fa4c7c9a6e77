use Rattle.std.proofs.Common.{map, arith}
use Rattle.std.proofs.lemmas.Result.{err_from_is_err_and}
use Rattle.reg_tree.specs.Makes.{step_of}
use Rattle.hive_edit.specs.Steps.{AreStepped}
use Rattle.hive_edit.proofs.SteppedLemmas.{if_done, if_undone, ordered_full, steps_refused}
use Rattle.hive_edit.proofs.hive.HiveBytes.make_within.Goals as goal
use Rattle.hive_edit.proofs.hive.HiveBytes.make_within.Goals.{Else-not-branch}

there : (c : Else-not-branch) → AreStepped c.args.self.now (map step_of c.args.steps.now) c.make_steps.new.self
there c = if_done _ _ _ c.if-not-branch.false c.in_ok-make_steps.ensures.made

pub returns-in_err-make_steps-clause-made : goal.returns-in_err-make_steps-clause-made
returns-in_err-make_steps-clause-made c =
    let h = c.args.self.now in
    let p = err_from_is_err_and c.from_residual.result c.from_residual.ensures.1 in
    rw (p.1, p.2) (steps_refused h.version h.tree (map step_of c.args.steps.now) c.in_err-make_steps.field-0.0
    c.in_err-make_steps.ensures.made)

pub returns-then-not-branch-clause-made : goal.returns-then-not-branch-clause-made
returns-then-not-branch-clause-made c = if_undone _ _ _ c.if-not-branch.true c.in_ok-make_steps.ensures.made

pub returns-then-bulk-gt-MOST_BULK-clause-made : goal.returns-then-bulk-gt-MOST_BULK-clause-made
returns-then-bulk-gt-MOST_BULK-clause-made c =
    ordered_full (map step_of c.args.steps.now) c.args.self.now c.make_steps.new.self c.bulk.result
    (there (goal.at.returns-then-bulk-gt-MOST_BULK-clause-made c).Else-not-branch) c.bulk.ensures
    c.if-bulk-gt-MOST_BULK.true

pub returns-clause-made : goal.returns-clause-made
returns-clause-made c = there (goal.at.returns-clause-made c).Else-not-branch

pub returns-clause-within : goal.returns-clause-within
returns-clause-within c = λ e. omega (arith, c.bulk.ensures, c.if-bulk-gt-MOST_BULK.false)

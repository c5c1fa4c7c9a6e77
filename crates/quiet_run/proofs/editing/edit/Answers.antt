use Rattle.quiet_run.proofs.editing.edit.Goals as goal

-- src/editing.rt:50:1
pub returns-clause-watched : goal.returns-clause-watched
returns-clause-watched c = rw c.in_ok-steps.ensures at c.make.ensures.watched

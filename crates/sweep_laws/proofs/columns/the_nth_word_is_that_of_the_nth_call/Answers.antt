use Rattle.sweep_laws.proofs.ColumnLemmas.{column_long, commit_column, recovery_column, both_column}
use Rattle.sweep_laws.proofs.columns.the_nth_word_is_that_of_the_nth_call.Goals as goal

pub returns-clause-counted : goal.returns-clause-counted
returns-clause-counted c = column_long

pub returns-clause-commit : goal.returns-clause-commit
returns-clause-commit c = commit_column

pub returns-clause-recovery : goal.returns-clause-recovery
returns-clause-recovery c = recovery_column

pub returns-clause-both : goal.returns-clause-both
returns-clause-both c = both_column

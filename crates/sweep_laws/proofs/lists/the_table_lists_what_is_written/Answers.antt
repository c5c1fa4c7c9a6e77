use Rattle.sweep_laws.proofs.ListingLemmas.{commit_listed, recovery_listed}
use Rattle.sweep_laws.proofs.lists.the_table_lists_what_is_written.Goals as goal

pub returns-clause-commit : goal.returns-clause-commit
returns-clause-commit c = commit_listed

pub returns-clause-recovery : goal.returns-clause-recovery
returns-clause-recovery c = recovery_listed

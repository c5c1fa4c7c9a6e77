use Rattle.sweep_laws.proofs.DiskCountLemmas.{commit_counts, recovery_counts, both_counts}
use Rattle.sweep_laws.proofs.counts.the_calls_are_those_that_the_disk_counted.Goals as goal

pub returns-clause-commit : goal.returns-clause-commit
returns-clause-commit c = commit_counts

pub returns-clause-recovery : goal.returns-clause-recovery
returns-clause-recovery c = recovery_counts

pub returns-clause-both : goal.returns-clause-both
returns-clause-both c = both_counts

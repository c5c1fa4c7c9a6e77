use Rattle.sweep_laws.proofs.TruthLemmas.{commit_true, recovery_true, both_true}
use Rattle.sweep_laws.proofs.tables.the_table_of_a_report_is_true.Goals as goal

pub returns-clause-commit : goal.returns-clause-commit
returns-clause-commit c = λ before base old new log root bits given is file. commit_true given is file

pub returns-clause-recovery : goal.returns-clause-recovery
returns-clause-recovery c = λ held base bitmap bins log written found numbers texts file.
    recovery_true found numbers texts file written

pub returns-clause-both : goal.returns-clause-both
returns-clause-both c = λ held base bitmap old new log last root bits found numbers texts sized fits stays file left.
    both_true found numbers texts file sized fits stays left

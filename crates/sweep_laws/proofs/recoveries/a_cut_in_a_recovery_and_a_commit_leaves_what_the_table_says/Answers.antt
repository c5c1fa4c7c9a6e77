use Rattle.sweep_laws.proofs.RecoveryLemmas.{both_leave}
use Rattle.sweep_laws.proofs.recoveries.a_cut_in_a_recovery_and_a_commit_leaves_what_the_table_says.Goals as goal

pub returns : goal.returns
returns c = λ held base bitmap old new root count bits sectors more found numbers texts sized fits stays.
    both_leave found numbers texts new root bits sized fits stays count sectors more

use Rattle.hive_model.specs.Recovery.{bit}
use Rattle.sweep_text.specs.sweep_text.Stages.{recovery_stages}
use Rattle.sweep_laws.specs.Leaving.{IsRecoveredBefore, LoadsBefore, recovery_writes}
use Rattle.sweep_laws.proofs.RecoveryLemmas.{recovery_leaves}
use Rattle.sweep_laws.proofs.StageLemmas.{calls_along}
use Rattle.sweep_laws.proofs.TreeLemmas.{loads_before}
use Rattle.sweep_laws.proofs.recoveries.a_cut_in_a_recovery_leaves_what_the_table_says.Goals as goal

pub returns-clause-recovered : goal.returns-clause-recovered
returns-clause-recovered c = λ held closed bitmap bins sectors found numbers texts. recovery_leaves found numbers texts sectors

pub returns-clause-loads : goal.returns-clause-loads
returns-clause-loads c = λ held closed bitmap bins sectors state found numbers texts holds.
    calls_along (IsRecoveredBefore closed bins) (LoadsBefore state) (loads_before closed bins state holds)
    held (recovery_stages sectors) (recovery_writes closed (bit bitmap) bins) (recovery_leaves found numbers texts sectors)

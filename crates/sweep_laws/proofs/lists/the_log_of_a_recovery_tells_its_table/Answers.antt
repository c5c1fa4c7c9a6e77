use Rattle.sweep_laws.proofs.FileLemmas.{recovery_told}
use Rattle.sweep_laws.proofs.lists.the_log_of_a_recovery_tells_its_table.Goals as goal

pub returns : goal.returns
returns c = λ held closed bitmap bins bytes found file. recovery_told file found

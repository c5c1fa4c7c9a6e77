use Rattle.kept_laws.proofs.CloneLemmas.{run_clone}
use Rattle.kept_laws.proofs.logon_laws.clones.a_clone_is_a_set_that_the_disk_woke_up_with.Goals as goal

pub returns : goal.returns
returns c = run_clone

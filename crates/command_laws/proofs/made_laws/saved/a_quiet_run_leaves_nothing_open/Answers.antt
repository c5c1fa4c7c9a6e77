use Rattle.command_laws.proofs.MadeLemmas.{quiet_rests}
use Rattle.command_laws.proofs.made_laws.saved.a_quiet_run_leaves_nothing_open.Goals as goal

pub returns : goal.returns
returns c = λ choice script placed. quiet_rests choice script placed

use Rattle.replay_laws.proofs.Ends.{run_ends}
use Rattle.replay_laws.proofs.laws.a_broken_entry_ends_its_run.Goals as goal

pub returns : goal.returns
returns c = run_ends

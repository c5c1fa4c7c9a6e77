use Rattle.replay_laws.proofs.Ending.{replay_told}
use Rattle.replay_laws.proofs.laws.the_last_line_is_what_was_done.Goals as goal

pub returns : goal.returns
returns c = replay_told

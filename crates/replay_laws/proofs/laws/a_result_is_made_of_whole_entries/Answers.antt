use Rattle.replay_laws.proofs.Making.{replay_made}
use Rattle.replay_laws.proofs.laws.a_result_is_made_of_whole_entries.Goals as goal

pub returns : goal.returns
returns c = replay_made

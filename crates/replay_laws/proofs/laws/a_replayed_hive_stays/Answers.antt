use Rattle.replay_laws.proofs.Making.{replay_again, replay_stays}
use Rattle.replay_laws.proofs.laws.a_replayed_hive_stays.Goals as goal

pub returns : goal.returns
returns c = record { again = replay_again; clean = replay_stays }

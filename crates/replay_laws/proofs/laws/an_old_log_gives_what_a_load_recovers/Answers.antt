use Rattle.replay_laws.proofs.Recovering.{replay_recovers, replay_loads}
use Rattle.replay_laws.proofs.laws.an_old_log_gives_what_a_load_recovers.Goals as goal

pub returns : goal.returns
returns c = record { recovers = replay_recovers; loads = replay_loads }

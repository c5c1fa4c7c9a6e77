use Rattle.replay_laws.proofs.Making.{no_log_read}
use Rattle.replay_laws.proofs.laws.the_logs_of_a_clean_hive_change_nothing.Goals as goal

pub returns : goal.returns
returns c = no_log_read

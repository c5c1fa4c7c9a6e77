use Rattle.log_replay.proofs.Ending.{clean_stays}
use Rattle.log_replay.proofs.laws.a_clean_hive_stays.Goals as goal

pub returns : goal.returns
returns c = clean_stays

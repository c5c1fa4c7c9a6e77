use Rattle.replay_laws.proofs.Ending.{replay_leaves}
use Rattle.replay_laws.proofs.laws.a_changed_hive_is_clean.Goals as goal

pub returns : goal.returns
returns c = replay_leaves

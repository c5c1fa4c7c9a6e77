use Rattle.hive_commit.proofs.Four.{in_log_stage}
use Rattle.hive_commit.proofs.laws.a_cut_while_the_log_is_written_leaves_the_old.Goals as goal

pub returns : goal.returns
returns c = λ before cut base old is agree. in_log_stage before cut base old is agree

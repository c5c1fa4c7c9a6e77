use Rattle.hive_commit.proofs.Four.{change_asked, opened_stage}
use Rattle.hive_commit.proofs.laws.a_cut_while_the_base_block_is_opened_leaves_the_old_or_the_new.Goals as goal

pub returns : goal.returns
returns c = λ before logged cut base old new root bits is log left.
    opened_stage base old new root bits (change_asked before base old new root bits is)
    before is.carries logged log.alone log.log_there cut left.alone left.block

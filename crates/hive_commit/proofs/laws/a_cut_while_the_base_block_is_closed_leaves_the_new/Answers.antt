use Rattle.hive_commit.proofs.Four.{change_asked, closed_stage}
use Rattle.hive_commit.proofs.laws.a_cut_while_the_base_block_is_closed_leaves_the_new.Goals as goal

pub returns : goal.returns
returns c = λ before logged opened moved cut base old new root bits is log block bins left.
    closed_stage base old new root bits (change_asked before base old new root bits is)
    before is.carries logged log.alone log.log_there opened block.alone block.block
    moved bins.alone bins.bins_there cut left.alone left.block

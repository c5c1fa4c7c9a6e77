use Rattle.hive_commit.proofs.Four.{change_asked, bins_stage}
use Rattle.hive_commit.proofs.laws.a_cut_while_the_bins_are_written_leaves_the_new.Goals as goal

pub returns : goal.returns
returns c = λ before logged opened cut base old new root bits is log block left.
    bins_stage base old new root bits (change_asked before base old new root bits is)
    before is.carries logged log.alone log.log_there opened block.alone block.block cut left

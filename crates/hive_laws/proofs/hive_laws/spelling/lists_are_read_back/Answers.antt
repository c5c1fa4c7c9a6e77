use Rattle.hive_model.proofs.Spelling.{li_again, lf_again, lh_again, ri_again}
use Rattle.hive_laws.proofs.hive_laws.spelling.lists_are_read_back.Goals as goal

pub returns-clause-li : goal.returns-clause-li
returns-clause-li c = li_again

pub returns-clause-lf : goal.returns-clause-lf
returns-clause-lf c = lf_again

pub returns-clause-ri : goal.returns-clause-ri
returns-clause-ri c = ri_again

pub returns-clause-lh : goal.returns-clause-lh
returns-clause-lh c = lh_again

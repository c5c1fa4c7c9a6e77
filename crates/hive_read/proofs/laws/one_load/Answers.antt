use Rattle.hive_read.proofs.Loading.{one-load}
use Rattle.hive_read.proofs.laws.one_load.Goals as goal

pub returns : goal.returns
returns c = one-load c.one_list.ensures

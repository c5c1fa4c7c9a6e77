use Rattle.hive_read.proofs.Loading.{load-or-fault}
use Rattle.hive_read.proofs.laws.load_or_fault.Goals as goal

pub returns : goal.returns
returns c = load-or-fault c.one_list.ensures c.list_or_fault.ensures

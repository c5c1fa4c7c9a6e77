use Rattle.hive_cells.proofs.Again.{one_list}
use Rattle.hive_cells.proofs.laws.one_list.Goals as goal

pub returns : goal.returns
returns c = one_list

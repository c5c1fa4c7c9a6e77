use Rattle.hive_cells.proofs.Again.{one_fault}
use Rattle.hive_cells.proofs.laws.one_fault.Goals as goal

pub returns : goal.returns
returns c = one_fault

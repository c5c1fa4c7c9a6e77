use Rattle.hive_read.proofs.Standing.{stands-where-none-fails}
use Rattle.hive_read.proofs.Wellformed.{well-formed-passes}
use Rattle.hive_laws.proofs.hive_laws.standing.well_formed_cells_have_no_fault.Goals as goal

pub returns : goal.returns
returns c = λ cells root. (λ is. well-formed-passes cells root is.0 is.1, stands-where-none-fails cells root)

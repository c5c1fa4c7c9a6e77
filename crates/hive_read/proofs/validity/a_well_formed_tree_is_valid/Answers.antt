use Rattle.hive_read.proofs.ValidTrees.{well-formed-valid}
use Rattle.hive_read.proofs.validity.a_well_formed_tree_is_valid.Goals as goal

pub returns : goal.returns
returns c = well-formed-valid

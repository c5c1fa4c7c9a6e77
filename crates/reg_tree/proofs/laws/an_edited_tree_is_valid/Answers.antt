use Rattle.reg_tree.proofs.Edited.{edited_valid}
use Rattle.reg_tree.proofs.laws.an_edited_tree_is_valid.Goals as goal

pub returns : goal.returns
returns c = edited_valid

use Rattle.state_laws.proofs.LoadLemmas.{loaded_is_valid}
use Rattle.state_laws.proofs.held_laws.trees.a_loaded_tree_is_valid.Goals as goal

pub returns : goal.returns
returns c = loaded_is_valid

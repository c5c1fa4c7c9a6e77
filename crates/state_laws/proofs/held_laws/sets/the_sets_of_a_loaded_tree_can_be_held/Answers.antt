use Rattle.state_laws.proofs.LoadLemmas.{premise_of_loaded}
use Rattle.state_laws.proofs.held_laws.sets.the_sets_of_a_loaded_tree_can_be_held.Goals as goal

pub returns : goal.returns
returns c = premise_of_loaded

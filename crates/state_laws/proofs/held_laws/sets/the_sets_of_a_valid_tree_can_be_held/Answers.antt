use Rattle.state_laws.proofs.WatchLemmas.{read_sets_are_held, last_set_is_held, premise_of_states}
use Rattle.state_laws.proofs.held_laws.sets.the_sets_of_a_valid_tree_can_be_held.Goals as goal

pub returns-clause-phases : goal.returns-clause-phases
returns-clause-phases c = read_sets_are_held

pub returns-clause-set : goal.returns-clause-set
returns-clause-set c = last_set_is_held

pub returns-clause-premise : goal.returns-clause-premise
returns-clause-premise c = premise_of_states

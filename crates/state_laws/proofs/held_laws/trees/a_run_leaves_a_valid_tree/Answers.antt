use Rattle.state_laws.proofs.ActLemmas.{live_stays_valid, settled_stays_valid}
use Rattle.state_laws.proofs.held_laws.trees.a_run_leaves_a_valid_tree.Goals as goal

pub returns-clause-live : goal.returns-clause-live
returns-clause-live c = live_stays_valid

pub returns-clause-settled : goal.returns-clause-settled
returns-clause-settled c = settled_stays_valid

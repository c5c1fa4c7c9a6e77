use Rattle.found_laws.proofs.Naming.{naming-is, naming-in-order}
use Rattle.found_laws.proofs.found_laws.laws.the_nodes_that_are_tried_name_their_parent.Goals as goal

pub returns-clause-named : goal.returns-clause-named
returns-clause-named c = naming-is

pub returns-clause-rising : goal.returns-clause-rising
returns-clause-rising c = naming-in-order

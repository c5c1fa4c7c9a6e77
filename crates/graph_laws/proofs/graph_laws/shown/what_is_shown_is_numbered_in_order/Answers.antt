use Rattle.graph_laws.proofs.NumberLemmas.{nodes_are_shown, edges_are_shown}
use Rattle.graph_laws.proofs.graph_laws.shown.what_is_shown_is_numbered_in_order.Goals as goal

pub returns-clause-nodes : goal.returns-clause-nodes
returns-clause-nodes c = nodes_are_shown

pub returns-clause-edges : goal.returns-clause-edges
returns-clause-edges c = edges_are_shown

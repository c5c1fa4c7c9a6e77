use Rattle.graph_laws.proofs.SharedLemmas.{edges_are_shared, shown_edges_are_of_whole}
use Rattle.graph_laws.proofs.node_laws.parts.the_edges_of_a_part_are_those_of_the_whole.Goals as goal

pub returns-clause-vertices : goal.returns-clause-vertices
returns-clause-vertices c = edges_are_shared

pub returns-clause-shown : goal.returns-clause-shown
returns-clause-shown c = shown_edges_are_of_whole

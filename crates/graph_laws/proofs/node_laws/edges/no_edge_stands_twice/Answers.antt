use Rattle.graph_laws.proofs.EdgeLemmas.{edges_stand_once}
use Rattle.graph_laws.proofs.node_laws.edges.no_edge_stands_twice.Goals as goal

pub returns : goal.returns
returns c = edges_stand_once

use Rattle.graph_laws.proofs.SharedLemmas.{vertices_are_shared}
use Rattle.graph_laws.proofs.node_laws.parts.the_vertices_of_a_part_are_those_of_the_whole.Goals as goal

pub returns : goal.returns
returns c = vertices_are_shared

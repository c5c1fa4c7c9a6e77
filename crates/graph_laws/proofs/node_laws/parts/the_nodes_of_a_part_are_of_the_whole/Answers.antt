use Rattle.graph_laws.proofs.PartLemmas.{part_is_of_whole}
use Rattle.graph_laws.proofs.node_laws.parts.the_nodes_of_a_part_are_of_the_whole.Goals as goal

pub returns : goal.returns
returns c = part_is_of_whole

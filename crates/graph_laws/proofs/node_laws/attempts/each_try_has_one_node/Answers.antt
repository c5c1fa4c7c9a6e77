use Rattle.graph_laws.proofs.NodeLemmas.{each_try_has_one_node}
use Rattle.graph_laws.proofs.node_laws.attempts.each_try_has_one_node.Goals as goal

pub returns : goal.returns
returns c = each_try_has_one_node

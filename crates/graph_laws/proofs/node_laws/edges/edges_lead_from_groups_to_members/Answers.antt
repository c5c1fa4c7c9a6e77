use Rattle.graph_laws.proofs.GroupLemmas.{groups_lead}
use Rattle.graph_laws.proofs.node_laws.edges.edges_lead_from_groups_to_members.Goals as goal

pub returns : goal.returns
returns c = groups_lead

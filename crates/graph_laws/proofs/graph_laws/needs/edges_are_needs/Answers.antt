use Rattle.graph_laws.proofs.NeedLemmas.{are_needs}
use Rattle.graph_laws.proofs.graph_laws.needs.edges_are_needs.Goals as goal

pub returns : goal.returns
returns c = are_needs

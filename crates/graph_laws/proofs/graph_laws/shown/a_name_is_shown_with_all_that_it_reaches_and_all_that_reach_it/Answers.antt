use Rattle.graph_laws.proofs.NeedLemmas.{has_vertex}
use Rattle.graph_laws.proofs.ReachLemmas.{name_shows}
use Rattle.graph_laws.proofs.graph_laws.shown.a_name_is_shown_with_all_that_it_reaches_and_all_that_reach_it.Goals as goal

pub returns-clause-vertex : goal.returns-clause-vertex
returns-clause-vertex c = has_vertex

pub returns-clause-reach : goal.returns-clause-reach
returns-clause-reach c = name_shows

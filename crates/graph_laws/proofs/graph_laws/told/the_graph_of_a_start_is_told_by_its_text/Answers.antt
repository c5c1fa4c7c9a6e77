use Rattle.graph_laws.proofs.ToldLemmas.{is_of_start}
use Rattle.graph_laws.proofs.graph_laws.told.the_graph_of_a_start_is_told_by_its_text.Goals as goal

pub returns : goal.returns
returns c = is_of_start

use Rattle.graph_laws.proofs.DrawingLemmas.{text_is_drawn}
use Rattle.graph_laws.proofs.dot_laws.drawings.the_text_of_a_graph_is_of_the_dot_language.Goals as goal

pub returns : goal.returns
returns c = text_is_drawn

use Rattle.graph_laws.proofs.TextLemmas.{dot_is_text}
use Rattle.graph_laws.proofs.dot_laws.texts.the_text_of_a_graph_is_ascii.Goals as goal

pub returns : goal.returns
returns c = dot_is_text

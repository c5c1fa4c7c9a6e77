use Rattle.graph_laws.proofs.ReachLemmas.{all_shows}
use Rattle.graph_laws.proofs.graph_laws.shown.without_a_name_the_taken_are_shown_and_what_they_need.Goals as goal

pub returns : goal.returns
returns c = all_shows

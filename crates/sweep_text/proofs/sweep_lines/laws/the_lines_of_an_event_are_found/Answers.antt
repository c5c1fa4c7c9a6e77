use Rattle.sweep_text.proofs.PieceLemmas.{found}
use Rattle.sweep_text.proofs.sweep_lines.laws.the_lines_of_an_event_are_found.Goals as goal

pub returns : goal.returns
returns c = found

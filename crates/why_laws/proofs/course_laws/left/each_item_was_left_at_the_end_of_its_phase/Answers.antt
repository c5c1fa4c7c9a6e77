use Rattle.why_laws.proofs.UnmetLemmas.{items_are_left}
use Rattle.why_laws.proofs.course_laws.left.each_item_was_left_at_the_end_of_its_phase.Goals as goal

pub returns : goal.returns
returns c = items_are_left

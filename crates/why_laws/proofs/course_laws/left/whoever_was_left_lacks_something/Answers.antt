use Rattle.why_laws.proofs.UnmetLemmas.{left_has_lack}
use Rattle.why_laws.proofs.course_laws.left.whoever_was_left_lacks_something.Goals as goal

pub returns : goal.returns
returns c = left_has_lack

use Rattle.why_laws.proofs.UnmetLemmas.{unmet_is_reported}
use Rattle.why_laws.proofs.course_laws.unmet.an_unmet_name_has_an_unmet_line.Goals as goal

pub returns : goal.returns
returns c = unmet_is_reported

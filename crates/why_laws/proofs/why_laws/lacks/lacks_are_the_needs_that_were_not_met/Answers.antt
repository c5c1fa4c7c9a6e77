use Rattle.why_laws.proofs.WhyLawsLackLemmas.{lacks_are_unmet_needs}
use Rattle.why_laws.proofs.why_laws.lacks.lacks_are_the_needs_that_were_not_met.Goals as goal

pub returns : goal.returns
returns c = lacks_are_unmet_needs

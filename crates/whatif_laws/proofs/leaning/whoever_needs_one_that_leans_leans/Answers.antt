use Rattle.whatif_laws.proofs.LeaningLemmas.{itself, another}
use Rattle.whatif_laws.proofs.leaning.whoever_needs_one_that_leans_leans.Goals as goal

pub returns-clause-itself : goal.returns-clause-itself
returns-clause-itself c = itself

pub returns-clause-another : goal.returns-clause-another
returns-clause-another c = another

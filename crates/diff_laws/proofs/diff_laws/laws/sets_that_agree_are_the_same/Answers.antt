use Rattle.diff_laws.proofs.AgreeLemmas.{sets_agree_so}
use Rattle.diff_laws.proofs.diff_laws.laws.sets_that_agree_are_the_same.Goals as goal

pub returns : goal.returns
returns c = record { same = sets_agree_so }

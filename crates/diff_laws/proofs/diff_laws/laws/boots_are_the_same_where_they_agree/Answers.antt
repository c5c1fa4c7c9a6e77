use Rattle.diff_laws.proofs.AgreeLemmas.{boots_agree_so}
use Rattle.diff_laws.proofs.diff_laws.laws.boots_are_the_same_where_they_agree.Goals as goal

pub returns : goal.returns
returns c = record { boots = boots_agree_so }

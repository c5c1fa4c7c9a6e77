use Rattle.diff_laws.proofs.OnlyLemmas.{same_only}
use Rattle.diff_laws.proofs.tree_laws.laws.sets_are_the_same_only_where_they_agree.Goals as goal

pub returns : goal.returns
returns c = same_only

use Rattle.diff_laws.proofs.SameLemmas.{same_with_all}
use Rattle.diff_laws.proofs.tree_laws.laws.sets_are_the_same_with_all_where_their_trees_are_equal.Goals as goal

pub returns : goal.returns
returns c = same_with_all

use Rattle.diff_laws.proofs.EqualLemmas.{no_line_where_equal}
use Rattle.diff_laws.proofs.tree_laws.laws.trees_have_no_line_where_they_are_equal.Goals as goal

pub returns : goal.returns
returns c = no_line_where_equal

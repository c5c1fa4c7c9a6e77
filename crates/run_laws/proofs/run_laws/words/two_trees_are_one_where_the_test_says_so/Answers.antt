use Rattle.run_laws.proofs.SameLemmas.{same-Decides}
use Rattle.run_laws.proofs.run_laws.words.two_trees_are_one_where_the_test_says_so.Goals as goal

pub returns : goal.returns
returns c = λ a b. same-Decides a b

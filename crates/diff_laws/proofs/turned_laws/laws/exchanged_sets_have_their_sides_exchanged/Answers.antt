use Rattle.diff_laws.proofs.SetLemmas.{sides_turn}
use Rattle.diff_laws.proofs.TreeLemmas.{all_sides_turn}
use Rattle.diff_laws.proofs.turned_laws.laws.exchanged_sets_have_their_sides_exchanged.Goals as goal

pub returns-clause-sets : goal.returns-clause-sets
returns-clause-sets c = sides_turn

pub returns-clause-all : goal.returns-clause-all
returns-clause-all c = all_sides_turn

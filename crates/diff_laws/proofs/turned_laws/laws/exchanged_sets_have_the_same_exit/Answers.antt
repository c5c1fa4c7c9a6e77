use Rattle.diff_laws.proofs.ExitLemmas.{exit_stays}
use Rattle.diff_laws.proofs.turned_laws.laws.exchanged_sets_have_the_same_exit.Goals as goal

pub returns : goal.returns
returns c = exit_stays

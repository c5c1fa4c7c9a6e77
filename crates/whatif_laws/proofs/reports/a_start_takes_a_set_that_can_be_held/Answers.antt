use Rattle.whatif_laws.proofs.EditedLemmas.{taken_is_held}
use Rattle.whatif_laws.proofs.reports.a_start_takes_a_set_that_can_be_held.Goals as goal

pub returns : goal.returns
returns c = taken_is_held

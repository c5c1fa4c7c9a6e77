use Rattle.check_laws.proofs.FreedLemmas.{same_are_taken, stuck_are_unmet, only_stuck_are_refused}
use Rattle.check_laws.proofs.laws.without_wrong_needs_the_stuck_are_unmet.Goals as goal

pub returns : goal.returns
returns c = record { taken = same_are_taken; stuck = stuck_are_unmet; refused = only_stuck_are_refused }

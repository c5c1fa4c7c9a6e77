use Rattle.whatif_laws.proofs.LostLemmas.{lost_is_unmet, fail_block_says, lost_leans_on}
use Rattle.whatif_laws.proofs.lost.the_lost_of_a_failure_are_unmet_and_lean.Goals as goal

pub returns : goal.returns
returns c = record { unmet = lost_is_unmet; block = fail_block_says; leans = lost_leans_on }

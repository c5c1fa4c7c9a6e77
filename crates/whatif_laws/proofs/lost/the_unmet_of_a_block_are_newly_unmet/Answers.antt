use Rattle.whatif_laws.proofs.LostLemmas.{fail_block_new, off_block_new}
use Rattle.whatif_laws.proofs.lost.the_unmet_of_a_block_are_newly_unmet.Goals as goal

pub returns : goal.returns
returns c = record { fail = fail_block_new; off = off_block_new }

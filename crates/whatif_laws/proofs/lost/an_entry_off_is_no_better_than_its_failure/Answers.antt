use Rattle.whatif_laws.proofs.LostLemmas.{off_no_better, lost_of_off}
use Rattle.whatif_laws.proofs.lost.an_entry_off_is_no_better_than_its_failure.Goals as goal

pub returns : goal.returns
returns c = record { off = off_no_better; untold = lost_of_off }

use Rattle.whatif_laws.proofs.OffLemmas.{set_off}
use Rattle.whatif_laws.proofs.off.an_entry_that_is_off_has_start_four.Goals as goal

pub returns : goal.returns
returns c = set_off

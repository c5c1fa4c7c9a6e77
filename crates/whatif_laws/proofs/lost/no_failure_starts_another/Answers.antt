use Rattle.whatif_laws.proofs.LostLemmas.{starts_no_other}
use Rattle.whatif_laws.proofs.lost.no_failure_starts_another.Goals as goal

pub returns : goal.returns
returns c = record { no_other = starts_no_other }

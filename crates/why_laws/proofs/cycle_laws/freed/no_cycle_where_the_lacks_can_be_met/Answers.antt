use Rattle.why_laws.proofs.FreedLemmas.{no_cycle_where_freed}
use Rattle.why_laws.proofs.cycle_laws.freed.no_cycle_where_the_lacks_can_be_met.Goals as goal

pub returns : goal.returns
returns c = no_cycle_where_freed

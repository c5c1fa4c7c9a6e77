use Rattle.why_laws.proofs.CycleLawsLackLemmas.{nothing_where_met}
use Rattle.why_laws.proofs.cycle_laws.lacks.an_entry_lacks_nothing_where_its_needs_were_met.Goals as goal

pub returns : goal.returns
returns c = nothing_where_met

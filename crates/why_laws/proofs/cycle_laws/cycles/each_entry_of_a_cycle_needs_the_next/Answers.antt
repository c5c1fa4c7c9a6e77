use Rattle.why_laws.proofs.CycleLemmas.{each_needs_the_next}
use Rattle.why_laws.proofs.cycle_laws.cycles.each_entry_of_a_cycle_needs_the_next.Goals as goal

pub returns : goal.returns
returns c = each_needs_the_next

use Rattle.why_laws.proofs.ReachedLemmas.{items_are_all_reached}
use Rattle.why_laws.proofs.cycle_laws.items.the_items_are_all_that_an_entry_leads_to.Goals as goal

pub returns : goal.returns
returns c = items_are_all_reached

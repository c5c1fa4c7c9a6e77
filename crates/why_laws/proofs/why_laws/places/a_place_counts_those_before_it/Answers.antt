use Rattle.start_laws.proofs.TakenLemmas.{plan_entries}
use Rattle.why_laws.proofs.PlaceLemmas.{in_order, place_is_count}
use Rattle.why_laws.proofs.why_laws.places.a_place_counts_those_before_it.Goals as goal

pub returns-clause-plan : goal.returns-clause-plan
returns-clause-plan c = plan_entries

pub returns-clause-order : goal.returns-clause-order
returns-clause-order c = in_order

pub returns-clause-count : goal.returns-clause-count
returns-clause-count c = place_is_count

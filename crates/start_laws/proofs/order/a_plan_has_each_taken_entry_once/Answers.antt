use Rattle.start_laws.proofs.TakenLemmas.{plan_places, plan_entries, plan_count, taken_rise}
use Rattle.start_laws.proofs.order.a_plan_has_each_taken_entry_once.Goals as goal

pub returns-clause-places : goal.returns-clause-places
returns-clause-places c = plan_places

pub returns-clause-once : goal.returns-clause-once
returns-clause-once c = taken_rise

pub returns-clause-entries : goal.returns-clause-entries
returns-clause-entries c = plan_entries

pub returns-clause-count : goal.returns-clause-count
returns-clause-count c = plan_count

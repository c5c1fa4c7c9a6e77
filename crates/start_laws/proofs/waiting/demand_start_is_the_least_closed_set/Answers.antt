use Rattle.start_laws.proofs.DemandLemmas.{taken_is_in_each, in_each_is_taken}
use Rattle.start_laws.proofs.waiting.demand_start_is_the_least_closed_set.Goals as goal

pub returns : goal.returns
returns c = λ table q. (taken_is_in_each table q, λ h. in_each_is_taken table q h.0 h.1)

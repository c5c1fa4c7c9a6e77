use Rattle.services_laws.proofs.MarkedLemmas.{since_is_not_before}
use Rattle.services_laws.proofs.laws.a_time_takes_what_is_not_before_it.Goals as goal

pub returns : goal.returns
returns c = since_is_not_before

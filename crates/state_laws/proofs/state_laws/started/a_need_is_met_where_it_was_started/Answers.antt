use Rattle.state_laws.proofs.StartedLemmas.{name_is_met, group_is_met}
use Rattle.state_laws.proofs.state_laws.started.a_need_is_met_where_it_was_started.Goals as goal

pub returns-clause-name : goal.returns-clause-name
returns-clause-name c = name_is_met

pub returns-clause-group : goal.returns-clause-group
returns-clause-group c = group_is_met

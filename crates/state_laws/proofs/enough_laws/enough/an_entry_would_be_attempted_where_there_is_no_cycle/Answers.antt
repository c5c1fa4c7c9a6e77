use Rattle.state_laws.proofs.EnoughLemmas.{attempted_where_no_cycle}
use Rattle.state_laws.proofs.enough_laws.enough.an_entry_would_be_attempted_where_there_is_no_cycle.Goals as goal

pub returns : goal.returns
returns c = attempted_where_no_cycle

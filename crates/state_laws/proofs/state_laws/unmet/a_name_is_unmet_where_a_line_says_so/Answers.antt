use Rattle.state_laws.proofs.SaidLemmas.{unmet_where_reported}
use Rattle.state_laws.proofs.SetLemmas.{phases_read_one_set}
use Rattle.state_laws.proofs.state_laws.unmet.a_name_is_unmet_where_a_line_says_so.Goals as goal

pub returns-clause-set : goal.returns-clause-set
returns-clause-set c = phases_read_one_set

pub returns-clause-line : goal.returns-clause-line
returns-clause-line c = unmet_where_reported

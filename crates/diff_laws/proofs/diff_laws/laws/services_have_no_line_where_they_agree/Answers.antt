use Rattle.diff_laws.proofs.AgreeLemmas.{services_agree_so}
use Rattle.diff_laws.proofs.diff_laws.laws.services_have_no_line_where_they_agree.Goals as goal

pub returns : goal.returns
returns c = record { services = services_agree_so }

use Rattle.diff_laws.proofs.AgreeLemmas.{groups_agree_so}
use Rattle.diff_laws.proofs.diff_laws.laws.groups_have_no_line_where_they_agree.Goals as goal

pub returns : goal.returns
returns c = record { groups = groups_agree_so }

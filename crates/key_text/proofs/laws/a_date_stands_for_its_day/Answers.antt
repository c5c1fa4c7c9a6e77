use Rattle.key_text.proofs.DateLemmas.{date_back}
use Rattle.key_text.proofs.laws.a_date_stands_for_its_day.Goals as goal

pub returns : goal.returns
returns c = date_back

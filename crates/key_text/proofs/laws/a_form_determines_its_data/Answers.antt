use Rattle.key_text.proofs.DataLemmas.{data_back}
use Rattle.key_text.proofs.laws.a_form_determines_its_data.Goals as goal

pub returns : goal.returns
returns c = data_back

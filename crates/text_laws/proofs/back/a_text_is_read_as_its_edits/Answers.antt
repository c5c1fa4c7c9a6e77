use Rattle.text_laws.proofs.TextLemmas.{read_back}
use Rattle.text_laws.proofs.back.a_text_is_read_as_its_edits.Goals as goal

pub returns : goal.returns
returns c = read_back

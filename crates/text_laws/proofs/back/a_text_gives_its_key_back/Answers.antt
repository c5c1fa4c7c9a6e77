use Rattle.text_laws.proofs.WholeLemmas.{gives_back}
use Rattle.text_laws.proofs.back.a_text_gives_its_key_back.Goals as goal

pub returns : goal.returns
returns c = gives_back

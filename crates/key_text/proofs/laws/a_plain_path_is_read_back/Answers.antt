use Rattle.key_text.proofs.PlainLemmas.{plain_back}
use Rattle.key_text.proofs.laws.a_plain_path_is_read_back.Goals as goal

pub returns : goal.returns
returns c = plain_back

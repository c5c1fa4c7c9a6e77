use Rattle.key_text.proofs.PlainLemmas.{spelled_back}
use Rattle.key_text.proofs.laws.a_printed_path_finds_its_key.Goals as goal

pub returns : goal.returns
returns c = spelled_back

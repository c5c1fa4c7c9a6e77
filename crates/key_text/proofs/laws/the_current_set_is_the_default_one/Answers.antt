use Rattle.key_text.proofs.LawLemmas.{current_default}
use Rattle.key_text.proofs.laws.the_current_set_is_the_default_one.Goals as goal

pub returns : goal.returns
returns c = current_default

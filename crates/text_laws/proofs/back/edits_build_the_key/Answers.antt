use Rattle.text_laws.proofs.BuildLemmas.{has_back}
use Rattle.text_laws.proofs.back.edits_build_the_key.Goals as goal

pub returns : goal.returns
returns c = has_back

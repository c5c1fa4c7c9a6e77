use Rattle.refusal_reason.proofs.LawLemmas.{absent-named}
use Rattle.refusal_reason.proofs.refusal_reason.laws.an_absent_file_is_named.Goals as goal

pub returns : goal.returns
returns c = absent-named

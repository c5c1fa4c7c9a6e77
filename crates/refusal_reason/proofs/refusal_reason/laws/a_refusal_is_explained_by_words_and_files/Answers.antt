use Rattle.refusal_reason.proofs.LawLemmas.{known-line, lost-line}
use Rattle.refusal_reason.proofs.refusal_reason.laws.a_refusal_is_explained_by_words_and_files.Goals as goal

pub returns : goal.returns
returns c = record { known = known-line; lost = lost-line }

use Rattle.key_text.proofs.LawLemmas.{none_found}
use Rattle.key_text.proofs.laws.no_key_is_printed_where_none_is_found.Goals as goal

pub returns : goal.returns
returns c = none_found

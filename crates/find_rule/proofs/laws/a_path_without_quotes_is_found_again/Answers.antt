use Rattle.find_rule.proofs.FoundLemmas.{typed}
use Rattle.find_rule.proofs.laws.a_path_without_quotes_is_found_again.Goals as goal

pub returns : goal.returns
returns c = typed

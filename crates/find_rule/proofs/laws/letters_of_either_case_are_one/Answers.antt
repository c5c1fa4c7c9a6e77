use Rattle.find_rule.specs.Hits.{places}
use Rattle.find_rule.proofs.CaseLemmas.{text_alike, path_alike}
use Rattle.find_rule.proofs.laws.letters_of_either_case_are_one.Goals as goal

pub returns-clause-text : goal.returns-clause-text
returns-clause-text c = λ w text other path t e. text_alike w text other e (places path t)

pub returns-clause-path : goal.returns-clause-path
returns-clause-path c = path_alike

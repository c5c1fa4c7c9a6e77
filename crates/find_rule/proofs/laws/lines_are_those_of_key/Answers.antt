use Rattle.find_rule.proofs.KeyLemmas.{name_as_key, data_as_key}
use Rattle.find_rule.proofs.laws.lines_are_those_of_key.Goals as goal

pub returns-clause-names : goal.returns-clause-names
returns-clause-names c = name_as_key

pub returns-clause-fields : goal.returns-clause-fields
returns-clause-fields c = data_as_key

use Rattle.find_rule.specs.Hits.{places}
use Rattle.find_rule.proofs.NarrowLemmas.{names_part, data_part}
use Rattle.find_rule.proofs.laws.names_and_data_part_the_hits.Goals as goal

pub returns-clause-names : goal.returns-clause-names
returns-clause-names c = λ w path t names strings bytes. names_part w names strings bytes (places path t)

pub returns-clause-strings : goal.returns-clause-strings
returns-clause-strings c = λ w path t names strings bytes. data_part w names strings bytes (places path t)

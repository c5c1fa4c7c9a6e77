use Rattle.found_laws.proofs.Ending.{all-told, all-once, all-turns}
use Rattle.found_laws.proofs.found_laws.laws.the_incomplete_keys_are_those_with_a_line.Goals as goal

pub returns-clause-told : goal.returns-clause-told
returns-clause-told c = all-told

pub returns-clause-once : goal.returns-clause-once
returns-clause-once c = all-once

pub returns-clause-turns : goal.returns-clause-turns
returns-clause-turns c = all-turns

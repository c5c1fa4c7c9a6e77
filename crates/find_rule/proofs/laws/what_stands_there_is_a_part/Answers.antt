use Rattle.find_rule.proofs.MatchLemmas.{part_exactly, whole_exactly}
use Rattle.find_rule.proofs.laws.what_stands_there_is_a_part.Goals as goal

pub returns-clause-part : goal.returns-clause-part
returns-clause-part c = part_exactly

pub returns-clause-whole : goal.returns-clause-whole
returns-clause-whole c = whole_exactly

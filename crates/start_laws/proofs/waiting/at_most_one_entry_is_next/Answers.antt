use Rattle.start_laws.proofs.NextLemmas.{next_is, is_the_next, one_is_next, none_is_ready}
use Rattle.start_laws.proofs.waiting.at_most_one_entry_is_next.Goals as goal

pub returns-clause-next : goal.returns-clause-next
returns-clause-next c = λ started waiting place. (next_is started waiting place, is_the_next started waiting place)

pub returns-clause-one : goal.returns-clause-one
returns-clause-one c = one_is_next

pub returns-clause-none : goal.returns-clause-none
returns-clause-none c = none_is_ready

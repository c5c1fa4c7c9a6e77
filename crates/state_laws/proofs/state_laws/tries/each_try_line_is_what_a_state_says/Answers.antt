use Rattle.state_laws.proofs.TryLemmas.{names_once, tries_are_states}
use Rattle.state_laws.proofs.state_laws.tries.each_try_line_is_what_a_state_says.Goals as goal

pub returns-clause-once : goal.returns-clause-once
returns-clause-once c = names_once

pub returns-clause-state : goal.returns-clause-state
returns-clause-state c = tries_are_states

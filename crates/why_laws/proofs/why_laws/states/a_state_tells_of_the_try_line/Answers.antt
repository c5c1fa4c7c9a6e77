use Rattle.why_laws.proofs.StateLemmas.{attempt_reported, reported_said}
use Rattle.why_laws.proofs.why_laws.states.a_state_tells_of_the_try_line.Goals as goal

pub returns-clause-reported : goal.returns-clause-reported
returns-clause-reported c = attempt_reported

pub returns-clause-said : goal.returns-clause-said
returns-clause-said c = reported_said

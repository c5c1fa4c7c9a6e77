use Rattle.graph_laws.proofs.AttemptLemmas.{numbers_are, attempts_are}
use Rattle.graph_laws.proofs.graph_laws.attempts.numbers_are_of_attempts.Goals as goal

pub returns-clause-attempt : goal.returns-clause-attempt
returns-clause-attempt c = numbers_are

pub returns-clause-number : goal.returns-clause-number
returns-clause-number c = attempts_are

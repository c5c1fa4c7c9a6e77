use Rattle.run_laws.proofs.FailureLemmas.{failures-set, failures-less}
use Rattle.run_laws.proofs.run_laws.words.failures_are_noted_by_folded_name.Goals as goal

pub returns-clause-noted : goal.returns-clause-noted
returns-clause-noted c = λ noted name count other. failures-set noted name count other

pub returns-clause-met : goal.returns-clause-met
returns-clause-met c = λ noted name other. failures-less noted name other

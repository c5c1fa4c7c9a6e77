use Rattle.std.proofs.Common.{refl}
use Rattle.sweep_laws.proofs.ColumnLemmas.{commit_calls}
use Rattle.sweep_laws.proofs.cuts.the_stages_are_the_calls.Goals as goal

pub returns-clause-commit : goal.returns-clause-commit
returns-clause-commit c = commit_calls

pub returns-clause-recovery : goal.returns-clause-recovery
returns-clause-recovery c = λ closed bits bins. refl

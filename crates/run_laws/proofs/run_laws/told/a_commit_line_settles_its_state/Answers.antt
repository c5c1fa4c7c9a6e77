use Rattle.std.proofs.Common.{refl}
use Rattle.run_laws.proofs.StillLemmas.{run-expects}
use Rattle.run_laws.proofs.run_laws.told.a_commit_line_settles_its_state.Goals as goal

pub returns-clause-line : goal.returns-clause-line
returns-clause-line c = λ what tree m next wakes outcomes. refl

pub returns-clause-settled : goal.returns-clause-settled
returns-clause-settled c = λ tree m. refl

pub returns-clause-next : goal.returns-clause-next
returns-clause-next c = λ choice script m wakes outcomes before after p is still. run-expects choice script m wakes
    outcomes before after p is still

use Rattle.std.proofs.Common.{refl}
use Rattle.start_laws.specs.Written.{run_with, report}
use Rattle.start_laws.proofs.saving.the_clone_is_saved.Goals as goal

pub returns-clause-said : goal.returns-clause-said
unfolding report
returns-clause-said c = refl

pub returns-clause-kept : goal.returns-clause-kept
unfolding run_with
returns-clause-kept c = refl

use Rattle.start_laws.proofs.MadeLemmas.{begin_only_full, save_only_full}
use Rattle.start_laws.proofs.changes.a_plan_is_refused_only_for_size.Goals as goal

pub returns-clause-begin : goal.returns-clause-begin
returns-clause-begin c = begin_only_full

pub returns-clause-save : goal.returns-clause-save
returns-clause-save c = save_only_full

use Rattle.start_laws.proofs.BeginLemmas.{begin_changes, without_steps}
use Rattle.start_laws.proofs.SaveLemmas.{save_changes}
use Rattle.start_laws.proofs.changes.a_plan_with_steps_changes_the_tree.Goals as goal

pub returns-clause-begin : goal.returns-clause-begin
returns-clause-begin c = λ version t on_good plan u is made some same. begin_changes version t u on_good plan is made
    some same

pub returns-clause-save : goal.returns-clause-save
returns-clause-save c = λ version t clone plan u is made same. save_changes version t clone u plan is made same

pub returns-clause-none : goal.returns-clause-none
returns-clause-none c = λ version t plan none. without_steps version t plan.steps none

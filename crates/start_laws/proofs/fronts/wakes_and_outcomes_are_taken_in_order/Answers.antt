use Rattle.start_laws.proofs.FrontLemmas.{run_of-front}
use Rattle.start_laws.proofs.TakeLemmas.{run_of-takes, run_of-more}
use Rattle.start_laws.proofs.fronts.wakes_and_outcomes_are_taken_in_order.Goals as goal

pub returns-clause-front : goal.returns-clause-front
returns-clause-front c = run_of-front

pub returns-clause-taken : goal.returns-clause-taken
returns-clause-taken c = run_of-takes

pub returns-clause-left_over : goal.returns-clause-left_over
returns-clause-left_over c = run_of-more

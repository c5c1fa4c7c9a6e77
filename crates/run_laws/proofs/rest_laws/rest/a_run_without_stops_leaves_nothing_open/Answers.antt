use Rattle.run_laws.proofs.RestLemmas.{run_of-rests, settled_loads}
use Rattle.run_laws.proofs.rest_laws.rest.a_run_without_stops_leaves_nothing_open.Goals as goal

pub returns-clause-rest : goal.returns-clause-rest
returns-clause-rest c = λ choice script placed wakes outcomes last left over is all.
    run_of-rests choice script placed wakes outcomes last left over is all

pub returns-clause-loads : goal.returns-clause-loads
returns-clause-loads c = λ p d is may. settled_loads p d is may

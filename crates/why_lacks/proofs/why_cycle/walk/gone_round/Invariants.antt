use Rattle.std.proofs.Common.{◌≡◌, []}
use Rattle.start_model.specs.Demand.{member}
use Rattle.wait_cycles.specs.Graph.{waits_in}
use Rattle.why_lacks.specs.why_cycle.Walk.{step, gone_round}
use Rattle.why_lacks.proofs.why_cycle.walk.gone_round.Given as goal

abbrev pub invariant-item : goal.invariant-item
invariant-item l = gone_round (step (waits_in l.count l.rows) (member l.freed)) l.left l.path.keys l.place ≡ gone_round (step (waits_in l.count l.rows) (member l.freed)) l.most [] 0

abbrev pub decreases-item : goal.decreases-item
decreases-item l = l.left

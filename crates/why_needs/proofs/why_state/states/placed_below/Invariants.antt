use Rattle.std.proofs.Common.{◌≡◌}
use Rattle.why_needs.specs.why_state.States.{placed_below}
use Rattle.why_needs.proofs.why_state.states.placed_below.Given as goal

abbrev pub invariant-plan : goal.invariant-plan
invariant-plan l = placed_below l.run.views l.left l.name ≡ placed_below l.run.views l.count l.name

abbrev pub decreases-plan : goal.decreases-plan
decreases-plan l = l.left

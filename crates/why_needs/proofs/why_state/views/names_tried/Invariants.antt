use Rattle.std.proofs.Common.{◌≡◌, take}
use Rattle.why_needs.specs.why_state.Views.{names_tried}
use Rattle.why_needs.proofs.why_state.views.names_tried.Given as goal

abbrev pub invariant-loop-attempt : goal.invariant-loop-attempt
invariant-loop-attempt l = l.names ≡ names_tried (take l.attempt-index l.attempts)

use Rattle.std.proofs.Common.{◌∙◌}
use Rattle.service_control.specs.First.{controlled}
use Rattle.service_control.proofs.StepLemmas.{at_some, at_none}
use Rattle.service_control.proofs.first.those_controlled.Goals as goal
use Rattle.service_control.proofs.first.those_controlled.Goals.{in-Some+in_ok-push, in_default}

pub loop-place-preserved : goal.loop-place-preserved
loop-place-preserved c =
    let table = c.args.table.now in
    let i = c.loop-place.place in
    elim c.match-branch-2.branch [
      | in-Some+in_ok-push w ↦
          w.needs-is ∙ w.in_ok-push.ensures.ok
          ∙ at_some controlled table i c.in_ok-need.field-0 w.in-Some.need c.loop-place.needs c.in_ok-need.ensures
          w.in-Some.is c.loop-place.invariant
      | in_default w ↦ w.needs-is
          ∙ at_none controlled table i c.in_ok-need.field-0 c.loop-place.needs c.in_ok-need.ensures w.in_default.is
          c.loop-place.invariant
    ]

use Rattle.std.proofs.Common.{◌++◌, ◌∷◌, [], sym, ap, ◌∙◌}
use Rattle.dependencies.proofs.KeptLemmas.{left_yes, left_not}
use Rattle.service_control.proofs.lists.places_of.Goals as goal
use Rattle.service_control.proofs.lists.places_of.Goals.{then-flags-place+in_ok-push, else-flags-place}

pub loop-place-preserved : goal.loop-place-preserved
loop-place-preserved c =
    let place = c.loop-place.place in
    elim c.if-flags-place.branch [
      | then-flags-place+in_ok-push w ↦
          w.places-is ∙ w.in_ok-push.ensures.ok ∙ ap (λ l. l ++ place ∷ []) c.loop-place.invariant
          ∙ sym (left_yes c.args.flags.now place c.loop-place-test.true w.if-flags-place.true)
      | else-flags-place w ↦ w.places-is ∙ c.loop-place.invariant
          ∙ sym (left_not c.args.flags.now place c.loop-place-test.true w.if-flags-place.false)
    ]

use Rattle.std.proofs.Common.{◌++◌, ◌∷◌, [], sym, ap, ◌∙◌}
use Rattle.dependencies.proofs.KeptLemmas.{left_yes, left_not}
use Rattle.dependencies.proofs.waiting.places_left.Goals as goal
use Rattle.dependencies.proofs.waiting.places_left.Goals.{then-waits-place+in_ok-push, else-waits-place}

pub loop-place-preserved : goal.loop-place-preserved
loop-place-preserved c =
    let place = c.loop-place.place in
    elim c.if-waits-place.branch [
      | then-waits-place+in_ok-push w ↦
          w.places-is ∙ w.in_ok-push.ensures.ok ∙ ap (λ l. l ++ place ∷ []) c.loop-place.invariant
          ∙ sym (left_yes c.args.waits.now place c.loop-place-test.true w.if-waits-place.true)
      | else-waits-place w ↦ w.places-is ∙ c.loop-place.invariant
          ∙ sym (left_not c.args.waits.now place c.loop-place-test.true w.if-waits-place.false)
    ]

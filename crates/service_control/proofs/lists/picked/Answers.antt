use Rattle.std.proofs.Common.{ℕ, Option, ◌∙◌}
use Rattle.std.specs.Prelude.{slice_get}
use Rattle.start_model.specs.Demand.{Need}
use Rattle.boot_phases.proofs.ListLemmas.{more_some, more_none}
use Rattle.service_control.proofs.lists.picked.Goals as goal
use Rattle.service_control.proofs.lists.picked.Goals.{in-Some+in_ok-push, in_default}

pub loop-place-preserved : goal.loop-place-preserved
loop-place-preserved c =
    let h : ℕ → Option Need = slice_get c.args.needs.now in
    let places = c.args.places.now in
    let i = c.loop-place.place-index in
    elim c.match-branch-2.branch [
      | in-Some+in_ok-push w ↦
          w.made-is ∙ w.in_ok-push.ensures.ok
          ∙ more_some h places i 0 c.in_ok-need.field-0 w.in-Some.need c.loop-place.made c.loop-place-test.true
          c.in_ok-need.ensures w.in-Some.is c.loop-place.invariant
      | in_default w ↦ w.made-is
          ∙ more_none h places i 0 c.in_ok-need.field-0 c.loop-place.made c.loop-place-test.true c.in_ok-need.ensures
          w.in_default.is c.loop-place.invariant
    ]

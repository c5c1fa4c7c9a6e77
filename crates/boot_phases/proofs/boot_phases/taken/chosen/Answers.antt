use Rattle.std.proofs.Common.{ℕ, Option, ◌∙◌}
use Rattle.std.specs.Prelude.{slice_get}
use Rattle.boot_phases.proofs.ListLemmas.{more_some, more_none}
use Rattle.boot_phases.proofs.boot_phases.taken.chosen.Goals as goal
use Rattle.boot_phases.proofs.boot_phases.taken.chosen.Goals.{in-Some+in_ok-push, in_default}

pub loop-index-preserved : goal.loop-index-preserved
loop-index-preserved c =
    let h : ℕ → Option ℕ = slice_get c.args.places.now in
    let indices = c.args.indices.now in
    let i = c.loop-index.index-index in
    elim c.match-place_at.branch [
      | in-Some+in_ok-push w ↦
          w.chosen-is ∙ w.in_ok-push.ensures.ok
          ∙ more_some h indices i 0 c.place_at.result w.in-Some.place c.loop-index.chosen c.loop-index-test.true
          c.place_at.ensures w.in-Some.is c.loop-index.invariant
      | in_default w ↦ w.chosen-is
          ∙ more_none h indices i 0 c.place_at.result c.loop-index.chosen c.loop-index-test.true c.place_at.ensures
          w.in_default.is c.loop-index.invariant
    ]

use Rattle.std.proofs.Common.{ℕ, List, Option, ◌∙◌}
use Rattle.std.specs.Prelude.{slice_get}
use Rattle.std.specs.Option.{option_map}
use Rattle.boot_phases.proofs.ListLemmas.{more_some, more_none}
use Rattle.boot_machine.proofs.boot_machine.queue.names_at.Goals as goal
use Rattle.boot_machine.proofs.boot_machine.queue.names_at.Goals.{in-Some+in_ok-push, in_default}

pub loop-place-preserved : goal.loop-place-preserved
loop-place-preserved c =
    let h : ℕ → Option (List ℕ) = λ p. option_map (λ n. n.name) (slice_get c.args.waiting.now.needs p) in
    let places = c.args.places.now in
    let i = c.loop-place.place-index in
    elim c.match-branch-2.branch [
      | in-Some+in_ok-push w ↦
          w.names-is ∙ w.in_ok-push.ensures.ok
          ∙ more_some h places i 0 c.in_ok-name.field-0 w.in-Some.name c.loop-place.names c.loop-place-test.true
          c.in_ok-name.ensures w.in-Some.is c.loop-place.invariant
      | in_default w ↦ w.names-is
          ∙ more_none h places i 0 c.in_ok-name.field-0 c.loop-place.names c.loop-place-test.true c.in_ok-name.ensures
          w.in_default.is c.loop-place.invariant
    ]

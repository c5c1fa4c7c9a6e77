use Rattle.std.proofs.Common.{ℕ, Bool, false, sym, ◌∙◌}
use Rattle.std.specs.Prelude.{slice_get}
use Rattle.std.specs.Option.{option_map_or}
use Rattle.start_model.specs.Entries.{is_driver_of}
use Rattle.dependencies.proofs.PulledLemmas.{filter-range_push, filter-range_skip}
use Rattle.boot_phases.proofs.boot_phases.taken.drivers.Goals as goal
use Rattle.boot_phases.proofs.boot_phases.taken.drivers.Goals.{then-is_driver_at+in_ok-push, else-is_driver_at}

pub loop-place-preserved : goal.loop-place-preserved
loop-place-preserved c =
    let p : ℕ → Bool = λ q. option_map_or (is_driver_of c.args.start c.args.tried.now) (slice_get c.args.table.now q)
    false in
    elim c.if-is_driver_at.branch [
      | then-is_driver_at+in_ok-push w ↦
          w.places-is ∙ w.in_ok-push.ensures.ok
          ∙ filter-range_push p c.loop-place.place c.loop-place.places c.loop-place.invariant
          (sym c.is_driver_at.ensures ∙ w.if-is_driver_at.true)
      | else-is_driver_at w ↦ w.places-is
          ∙ filter-range_skip p c.loop-place.place c.loop-place.places c.loop-place.invariant
          (sym c.is_driver_at.ensures ∙ w.if-is_driver_at.false)
    ]

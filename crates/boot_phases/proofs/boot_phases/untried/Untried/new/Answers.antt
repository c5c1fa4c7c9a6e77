use Rattle.std.proofs.Common.{ℕ, Bool, false, sym, ◌∙◌}
use Rattle.std.specs.Prelude.{slice_get}
use Rattle.std.specs.Option.{option_map_or}
use Rattle.start_model.specs.Entries.{is_open}
use Rattle.dependencies.proofs.PulledLemmas.{filter-range_push, filter-range_skip}
use Rattle.boot_phases.proofs.UntriedLemmas.{seen_push, seen_skip}
use Rattle.boot_phases.proofs.boot_phases.untried.Untried.new.Goals as goal
use Rattle.boot_phases.proofs.boot_phases.untried.Untried.new.Goals.{then-is_open_at+in_ok-push-2, else-is_open_at}

pub loop-place-preserved : goal.loop-place-preserved
loop-place-preserved c =
    let p : ℕ → Bool = λ q. option_map_or (is_open c.args.tried.now) (slice_get c.args.table.now q) false in
    let at = c.loop-place in
    elim c.if-is_open_at.branch [
      | then-is_open_at+in_ok-push-2 w ↦
          record {
            places = w.places-is ∙ w.in_ok-push-2.ensures.ok
                ∙ filter-range_push p at.place at.places at.invariant.places
                (sym c.is_open_at.ensures ∙ w.if-is_open_at.true);
            seen = rw (w.places-is, w.in_ok-push-2.ensures.ok, c.in_ok-push.ensures.ok, c.len.ensures)
                (seen_push at.place at.places at.indices at.invariant.seen);
          }
      | else-is_open_at w ↦
          record {
            places = w.places-is ∙ filter-range_skip p at.place at.places at.invariant.places
                (sym c.is_open_at.ensures ∙ w.if-is_open_at.false);
            seen = rw (w.places-is, c.in_ok-push.ensures.ok)
                (seen_skip at.place at.places at.indices _ at.invariant.seen);
          }
    ]

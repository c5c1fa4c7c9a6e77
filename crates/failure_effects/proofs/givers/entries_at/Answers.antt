use Rattle.std.specs.Prelude.{slice_get}
use Rattle.failure_effects.proofs.LayerLemmas.{more_mapped_at}
use Rattle.failure_effects.proofs.givers.entries_at.Goals as goal

pub loop-place-preserved : goal.loop-place-preserved
loop-place-preserved c =
    more_mapped_at (slice_get c.args.entries.now) c.args.places.now c.loop-place.place-index 0 c.loop-place.out c.push_entry.new.out
    c.loop-place-test.true c.loop-place.invariant c.in_ok-push_entry.ensures

use Rattle.std.proofs.Common.{ℕ, Option}
use Rattle.std.specs.Prelude.{slice_get}
use Rattle.std.specs.Option.{option_map}
use Rattle.start_model.specs.Order.{Rank, rank_of}
use Rattle.boot_phases.proofs.ListLemmas.{more_some, more_none}
use Rattle.boot_phases.proofs.boot_phases.rank.ranks_at.Goals as goal
use Rattle.boot_phases.proofs.boot_phases.rank.ranks_at.Goals.{in-Some+in_ok-push, in_default}

pub loop-place-preserved : goal.loop-place-preserved
loop-place-preserved c =
    let places = c.args.places.now in
    let i = c.loop-place.place-index in
    let h : ℕ → Option Rank =
    λ p. option_map (rank_of c.args.orders.now c.args.tags_count p) (slice_get c.args.table.now p) in
    elim c.match-rank_at.branch [
      | in-Some+in_ok-push w ↦
          rw (w.ranks-is, w.in_ok-push.ensures.items)
          (more_some h places i 0 c.rank_at.result w.in-Some.found c.loop-place.ranks.items c.loop-place-test.true
          c.rank_at.ensures w.in-Some.is c.loop-place.invariant)
      | in_default w ↦ rw w.ranks-is
          (more_none h places i 0 c.rank_at.result c.loop-place.ranks.items c.loop-place-test.true c.rank_at.ensures
          w.in_default.is c.loop-place.invariant)
    ]

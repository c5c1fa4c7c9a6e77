use Rattle.std.proofs.Common.{ℕ, Option}
use Rattle.std.specs.Prelude.{slice_get}
use Rattle.std.specs.Option.{option_map}
use Rattle.start_model.specs.Order.{Rank}
use Rattle.service_control.specs.First.{group_rank}
use Rattle.service_control.proofs.StepLemmas.{range_some, range_none}
use Rattle.service_control.proofs.rank.ranks.Goals as goal
use Rattle.service_control.proofs.rank.ranks.Goals.{in-Some+in_ok-push, in_default}

pub loop-place-preserved : goal.loop-place-preserved
loop-place-preserved c =
    let h : ℕ → Option Rank = λ p. option_map (group_rank c.args.orders.now p) (slice_get c.args.table.now p) in
    let i = c.loop-place.place in
    elim c.match-rank_at.branch [
      | in-Some+in_ok-push w ↦
          rw (w.ranks-is, w.in_ok-push.ensures.items)
          (range_some h i c.rank_at.result w.in-Some.found c.loop-place.ranks.items c.rank_at.ensures w.in-Some.is
          c.loop-place.invariant)
      | in_default w ↦ rw w.ranks-is
          (range_none h i c.rank_at.result c.loop-place.ranks.items c.rank_at.ensures w.in_default.is
          c.loop-place.invariant)
    ]

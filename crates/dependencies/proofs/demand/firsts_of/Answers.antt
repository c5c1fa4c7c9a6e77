use Rattle.std.proofs.Common.{sym, ◌∙◌}
use Rattle.start_model.specs.Demand.{starts_at}
use Rattle.dependencies.proofs.PulledLemmas.{filter-range_push, filter-range_skip}
use Rattle.dependencies.proofs.demand.firsts_of.Goals as goal
use Rattle.dependencies.proofs.demand.firsts_of.Goals.{then-starts+in_ok-push, else-starts}

pub loop-place-preserved : goal.loop-place-preserved
loop-place-preserved g c =
    let p = starts_at (g.T.NeedTable.needs c.args.table.now) 2 in
    elim c.if-starts.branch [
      | then-starts+in_ok-push w ↦ w.places-is ∙ w.in_ok-push.ensures.ok
          ∙ filter-range_push p c.loop-place.place c.loop-place.places c.loop-place.invariant (sym {b = p c.loop-place.place} w.if-starts.ensures)
      | else-starts w ↦ w.places-is
          ∙ filter-range_skip p c.loop-place.place c.loop-place.places c.loop-place.invariant (sym {b = p c.loop-place.place} w.if-starts.ensures)
    ]

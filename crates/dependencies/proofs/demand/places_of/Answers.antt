use Rattle.std.proofs.Common.{◌≡◌, ℕ, Bool, filter, length, sym, ap, ◌∙◌, arith}
use Rattle.std.specs.List.{range_with_len}
use Rattle.start_model.specs.Demand.{member}
use Rattle.dependencies.proofs.PulledLemmas.{automatic_of-least, filter-range_push, filter-range_skip}
use Rattle.dependencies.proofs.demand.places_of.Goals as goal
use Rattle.dependencies.proofs.demand.places_of.Goals.{then-is_member+in_ok-push, else-is_member}

pub loop-place-preserved : goal.loop-place-preserved
loop-place-preserved g c =
    let p : ℕ → Bool = member c.args.taken.now in
    elim c.if-is_member.branch [
      | then-is_member+in_ok-push w ↦
          w.places-is ∙ w.in_ok-push.ensures.ok
          ∙ filter-range_push p c.loop-place.place c.loop-place.places c.loop-place.invariant
          (sym w.if-is_member.ensures)
      | else-is_member w ↦ w.places-is
          ∙ filter-range_skip p c.loop-place.place c.loop-place.places c.loop-place.invariant
          (sym w.if-is_member.ensures)
    ]

pub returns : goal.returns
returns g c =
    let needs = (g.T.NeedTable.needs c.args.table.now) in
    let p : ℕ → Bool = member c.args.taken.now in
    let n : c.loop-place.place ≡ length needs = omega arith in
    c.loop-place.invariant ∙ ap (λ k. filter p (range_with_len 0 k)) n
    ∙ sym (automatic_of-least needs c.args.taken.now c.requires.least)

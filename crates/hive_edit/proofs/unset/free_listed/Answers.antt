use Rattle.std.proofs.Common.{◌≡◌, ℕ, suc, ◌+◌, take, subst, ◌∙◌, arith}
use Rattle.hive_edit.specs.Gone.{AreGone}
use Rattle.hive_edit.proofs.GoneLemmas.{list_room_there, next_held, next_gone, first_some, all_gone, listed_gone, known_can}
use Rattle.hive_edit.proofs.unset.free_listed.Goals as goal

pub number_in-at-requires : goal.number_in-at-requires
number_in-at-requires c =
    let r = c.requires in
    list_room_there c.args.heap.now.bins c.loop-place.heap.bins c.args.list c.args.count c.loop-place.place r.0 r.1 r.2
    (c.loop-place.invariant.gone r.0 r.1 r.2) (omega arith)

pub free-requires : goal.free-requires
free-requires c =
    let r = c.requires in
    next_held c.args.heap.now.bins c.loop-place.heap.bins c.args.list c.args.count c.loop-place.place c.number_in-at.result r.0
    r.1 r.2 (c.loop-place.invariant.gone r.0 r.1 r.2) (omega arith)
    c.number_in-at.ensures

pub loop-place-preserved : goal.loop-place-preserved
loop-place-preserved c = record {
  gone = λ offsets h g.
      let e : suc c.loop-place.place ≡ c.loop-place.place + 1 = omega arith in
      subst (λ (n : ℕ). AreGone (take n offsets) c.args.heap.now.bins c.free.new.self.bins) e
      (next_gone c.args.heap.now.bins c.loop-place.heap.bins c.free.new.self.bins c.args.list c.args.count c.loop-place.place
      c.number_in-at.result offsets h g (c.loop-place.invariant.gone offsets h g)
      (omega arith) c.number_in-at.ensures
      (record { gone = c.free.ensures.gone; others = c.free.ensures.others; long = c.free.ensures.long }));
  base = c.free.ensures.base ∙ c.loop-place.invariant.base;
}

pub free-requires-2 : goal.free-requires-2
free-requires-2 c =
    let r = c.requires in
    first_some c.args.list r.0 c.args.heap.now.bins c.loop-place.heap.bins r.2
    (all_gone c.args.heap.now.bins c.loop-place.heap.bins c.args.list c.args.count c.loop-place.place r.0 r.1
    c.loop-place-test.false (c.loop-place.invariant.gone r.0 r.1 r.2))

pub returns-clause-gone : goal.returns-clause-gone
returns-clause-gone c = λ offsets h.
    let r = c.requires in
    let can = known_can c.args.heap.now.bins c.args.list c.args.count offsets r.0 h r.1 r.2 in
    listed_gone c.args.heap.now.bins c.loop-place.heap.bins c.free-2.new.self.bins c.args.list c.args.count c.loop-place.place offsets
    r.0 h r.1 r.2 c.loop-place-test.false
    (c.loop-place.invariant.gone offsets h can)
    (record { gone = c.free-2.ensures.gone; others = c.free-2.ensures.others; long = c.free-2.ensures.long })

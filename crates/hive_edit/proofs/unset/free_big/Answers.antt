use Rattle.std.proofs.Common.{ℕ, ◌∷◌, sym, subst}
use Rattle.hive_edit.specs.Gone.{AreGone, CanGo, HasOffsets}
use Rattle.hive_edit.proofs.GoneLemmas.{can_rest, first_some, one_gone}
use Rattle.hive_edit.proofs.unset.free_big.Goals as goal

pub free_listed-requires : goal.free_listed-requires
free_listed-requires c =
    let r = c.requires in
    let s = c.segments_of-list.ensures r.0 r.1 r.2 in (
      r.1,
      subst (λ (l : ℕ). HasOffsets c.args.heap.now.bins l c.segments_of-list.result.1 r.1) (sym s.0) s.1,
      subst (λ (l : ℕ). CanGo c.args.heap.now.bins (l ∷ r.1)) (sym s.0)
          (can_rest c.args.place (r.0 ∷ r.1) c.args.heap.now.bins r.3),
    )

pub free-requires : goal.free-requires
free-requires c =
    let r = c.requires in
    let s = c.segments_of-list.ensures r.0 r.1 r.2 in
    let gone = c.free_listed.ensures.gone r.1
    (subst (λ (l : ℕ). HasOffsets c.args.heap.now.bins l c.segments_of-list.result.1 r.1) (sym s.0) s.1) in
    first_some c.args.place (r.0 ∷ r.1) c.args.heap.now.bins c.free_listed.new.heap.bins r.3
    (subst (λ (l : ℕ). AreGone (l ∷ r.1) c.args.heap.now.bins c.free_listed.new.heap.bins) s.0 gone)

pub returns-clause-gone : goal.returns-clause-gone
returns-clause-gone c = λ list offsets h.
    let s = c.segments_of-list.ensures list offsets h in
    let gone = c.free_listed.ensures.gone offsets
    (subst (λ (l : ℕ). HasOffsets c.args.heap.now.bins l c.segments_of-list.result.1 offsets) (sym s.0) s.1) in
    one_gone (list ∷ offsets) c.args.place c.args.heap.now.bins c.free_listed.new.heap.bins c.free.new.self.bins
    (subst (λ (l : ℕ). AreGone (l ∷ offsets) c.args.heap.now.bins c.free_listed.new.heap.bins) s.0 gone)
    (record { gone = c.free.ensures.gone; others = c.free.ensures.others; long = c.free.ensures.long })

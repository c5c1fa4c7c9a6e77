use Rattle.std.proofs.Common.{◌≡◌, ◌≤◌, ℕ, List, [], ◌∷◌, ◌⊎◌, inl, inr, refl, sym, subst, ◌∙◌, arith}
use Rattle.hive_model.specs.Bins.{look_up}
use Rattle.edited_cells.specs.Owned.{In}
use Rattle.hive_edit.specs.Gone.{AreGone, CanGo, data_cells}
use Rattle.hive_edit.proofs.GoneLemmas.{none_gone, one_gone}
use Rattle.hive_edit.proofs.UnsetLemmas.{BigHere, none_apart, one_apart, big_here}
use Rattle.hive_edit.proofs.unset.free_data.Goals as goal
use Rattle.hive_edit.proofs.unset.free_data.Goals.{Else-is_big, Start, Then-is_big}

-- no cell has the data
untouched : (c : Start) → (2147483648 ≤ c.args.size) ⊎ (c.args.size ≡ 0) → let b = c.args.heap.now.bins in
    AreGone (data_cells (look_up c.args.version b) c.args.size c.args.place) b b
untouched c none =
    let b = c.args.heap.now.bins in
    subst (λ (l : List ℕ). AreGone l b b) (sym (none_apart (look_up c.args.version b) c.args.size c.args.place none))
    (none_gone b)

big : (c : Then-is_big) → BigHere c.args.version c.args.heap.now.bins c.args.size c.args.place
big c =
    big_here c.args.version c.args.heap.now.bins c.args.size c.args.place (omega (arith, c.if-size-ge2147483648.false))
    c.if-size-eq0.false (sym c.is_big.ensures ∙ c.if-is_big.true) c.requires.data

one : (c : Else-is_big)
    → data_cells (look_up c.args.version c.args.heap.now.bins) c.args.size c.args.place ≡ c.args.place ∷ []
one c =
    one_apart (look_up c.args.version c.args.heap.now.bins) c.args.size c.args.place
    (omega (arith, c.if-size-ge2147483648.false)) c.if-size-eq0.false (sym c.is_big.ensures ∙ c.if-is_big.false)

pub returns-then-size-ge2147483648-clause-gone : goal.returns-then-size-ge2147483648-clause-gone
returns-then-size-ge2147483648-clause-gone c =
    untouched (goal.at.returns-then-size-ge2147483648-clause-gone c).Start (inl c.if-size-ge2147483648.true)

pub returns-then-size-eq0-clause-gone : goal.returns-then-size-eq0-clause-gone
returns-then-size-eq0-clause-gone c =
    untouched (goal.at.returns-then-size-eq0-clause-gone c).Start (inr c.if-size-eq0.true)

pub free_big-requires : goal.free_big-requires
free_big-requires c =
    let b = big (goal.at.free_big-requires c).Then-is_big in
    (b.list, b.offsets, b.segments, subst (CanGo c.args.heap.now.bins) b.cells_are c.requires.can)

pub free-requires : goal.free-requires
free-requires c =
    c.requires.can.held c.args.place
    (subst (λ (l : List ℕ). In l c.args.place) (sym (one (goal.at.free-requires c).Else-is_big)) (inl refl))

pub returns-then-is_big-clause-gone : goal.returns-then-is_big-clause-gone
returns-then-is_big-clause-gone c =
    let b = big (goal.at.returns-then-is_big-clause-gone c).Then-is_big in
    subst (λ (l : List ℕ). AreGone l c.args.heap.now.bins c.free_big.new.heap.bins) (sym b.cells_are)
    (c.free_big.ensures.gone b.list b.offsets b.segments)

pub returns-else-is_big-clause-gone : goal.returns-else-is_big-clause-gone
returns-else-is_big-clause-gone c =
    subst (λ (l : List ℕ). AreGone l c.args.heap.now.bins c.free.new.self.bins)
    (sym (one (goal.at.returns-else-is_big-clause-gone c).Else-is_big))
    (one_gone [] c.args.place c.args.heap.now.bins c.args.heap.now.bins c.free.new.self.bins (none_gone c.args.heap.now.bins)
    (record { gone = c.free.ensures.gone; others = c.free.ensures.others; long = c.free.ensures.long }))

use Rattle.std.proofs.Common.{◌≡◌, ℕ, Bool, List, sym, subst, ◌∙◌, arith}
use Rattle.hive_model.specs.Bins.{Bin, look_up}
use Rattle.hive_model.specs.KeyNode.{key_node_at}
use Rattle.hive_model.specs.Walk.{reading}
use Rattle.edited_cells.specs.Uses.{tree_uses}
use Rattle.hive_look.specs.Places.{IsKeyAt}
use Rattle.hive_edit.specs.Dropped.{CanRemove}
use Rattle.hive_edit.specs.Deleting.{levels_left}
use Rattle.hive_look.proofs.ResultLemmas.{done}
use Rattle.hive_edit.proofs.PairLemmas.{PairHere, pair_here, above_stands, kid_stands, can_remove}
use Rattle.hive_edit.proofs.deleting.take_pair.Goals as goal
use Rattle.hive_edit.proofs.deleting.take_pair.Goals.{Start}

pair : (c : Start)
    → PairHere (look_up c.args.version c.args.heap.now.bins) c.args.root c.requires.tree c.args.path.now c.args.pair
pair c =
    pair_here (look_up c.args.version c.args.heap.now.bins) c.args.root c.requires.tree c.args.path.now c.args.pair
    c.requires.well c.requires.place

pub above_at-above-requires : goal.above_at-above-requires
above_at-above-requires c =
    let version = c.args.version in
    subst (λ (z : List Bin). IsKeyAt (look_up version z) c.args.pair.above) (sym c.cells.ensures)
    (above_stands _ _ _ _ _ (pair (goal.at.above_at-above-requires c).Start))

pub uses_of-requires-clause-here : goal.uses_of-requires-clause-here
uses_of-requires-clause-here c =
    let version = c.args.version in
    subst (λ (z : List Bin). IsKeyAt (look_up version z) c.args.pair.at) (sym c.cells.ensures)
    (kid_stands _ _ _ _ _ (pair (goal.at.uses_of-requires-clause-here c).Start))

pub uses_of-requires-clause-shallow : goal.uses_of-requires-clause-shallow
uses_of-requires-clause-shallow c =
    let short = (pair (goal.at.uses_of-requires-clause-shallow c).Start).short in omega (arith, short)

pub take_child-requires : goal.take_child-requires
take_child-requires c =
    let version = c.args.version in
    let path = c.args.path.now in
    let p = c.args.pair in
    let h = pair (goal.at.take_child-requires c).Start in
    let read = subst (λ (z : List Bin). reading key_node_at (look_up version z) p.above ≡ done h.node)
    (sym c.cells.ensures) h.parent_is.read in
    let uses = c.as_slice.ensures.value ∙ c.in_ok-uses.ensures
    ∙ (λ i. tree_uses (levels_left path) (look_up version (c.cells.ensures i)) p.at) in
    subst (λ (us : List (ℕ × Bool)). CanRemove version p.above c.above_at-above.result us c.args.heap.now.bins) (sym uses)
    (can_remove version c.args.heap.now.bins c.args.root c.requires.tree path p c.above_at-above.result h
    (c.above_at-above.ensures h.node read))

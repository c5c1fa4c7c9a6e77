use Rattle.std.proofs.Common.{inr, ◌∙◌, arith}
use Rattle.hive_edit.specs.Grafted.{LacksGraftLists}
use Rattle.hive_model.specs.Bins.{look_up}
use Rattle.hive_model.specs.Edit.{make_key}
use Rattle.hive_edit.specs.Hive.{hive_of}
use Rattle.hive_look.specs.Places.{IsKeyAt}
use Rattle.hive_edit.specs.Tells.{IsToldStep}
use Rattle.hive_edit.proofs.AskedLemmas.{open_stands}
use Rattle.hive_edit.proofs.ChildLemmas.{can_graft, no_shorter, still_hive, still_or}
use Rattle.hive_edit.proofs.MakeLemmas.{Ready, ready, run_is, node_lacks, list_lacks, key_made}
use Rattle.hive_edit.proofs.SteppedLemmas.{IsStepMade, if_done, if_undone}
use Rattle.hive_edit.proofs.ToldLemmas.{made_told}
use Rattle.hive_edit.proofs.hive.HiveBytes.make_at.Goals as goal
use Rattle.hive_edit.proofs.hive.HiveBytes.make_at.Goals.{After-are_bytes, After-cells, After-tell, In-Some, Then-not-done}

stands : (c : After-cells) → IsKeyAt (look_up c.self.inside.version c.cells.result.now) c.args.place.at
stands c =
    let i = c.self.inside in
    open_stands i.cells c.cells.result.now i.root i.version i.bulk c.args.self.now c.args.parent.now c.args.name.now
    c.args.place.at c.self.invariant c.cells.ensures c.self.view_is c.requires.may.open_at

-- what is known where there is room for the node
known : (c : In-Some) → Ready c.self.inside.cells.bins c.self.inside.root c.self.inside.version c.args.parent.now
    c.args.name.now c.args.place c.above_at-above.result c.security-shared.result.now c.in_ok-key.key c.in-Some.at
known c =
    let i = c.self.inside in
    ready i.cells c.cells.result.now i.root i.version i.bulk c.args.self.now c.args.parent.now c.args.name.now c.args.place
    c.above_at-above.result c.security-shared.result.now c.in_ok-key.key c.node_len-size.result c.in-Some.at
    c.self.invariant c.self.view_is c.cells.ensures c.requires.may c.above_at-above.ensures c.in_ok-key.ensures
    c.security-shared.ensures c.offset_fits.ensures c.offset_fits-2.ensures c.node_len-size.ensures.exact
    c.in-Some.ensures

-- there is no room for the lists
lacks : (c : Then-not-done) → LacksGraftLists c.self.inside.version c.args.place.at c.above_at-above.result
    c.security-shared.result.now c.in_ok-key.key c.in-Some.at c.self.inside.cells.bins c.graft_cells.new.heap.bins
lacks c = if_undone _ _ _ c.if-not-done.true c.in_ok-done.ensures.grafted

pub above_at-above-requires : goal.above_at-above-requires
above_at-above-requires c = stands (goal.at.above_at-above-requires c).After-cells

pub new_child-requires : goal.new_child-requires
new_child-requires c = stands (goal.at.new_child-requires c).After-cells

pub node_len-size-requires : goal.node_len-size-requires
node_len-size-requires c = c.requires.may.open_at.short

pub wide_len-wide-requires : goal.wide_len-wide-requires
wide_len-wide-requires c = omega (arith, c.requires.may.open_at.short)

pub returns-in-None-clause-made : goal.returns-in-None-clause-made
returns-in-None-clause-made c =
    let i = c.self.inside in
    node_lacks i.cells i.root i.version i.bulk c.args.self.now c.args.parent.now c.args.name.now c.args.place
    c.node_len-size.result c.self.invariant c.self.view_is c.requires.may c.node_len-size.ensures.exact
    c.in-None.ensures

pub cells_below-requires-clause-valid : goal.cells_below-requires-clause-valid
cells_below-requires-clause-valid c = (known (goal.at.cells_below-requires-clause-valid c).In-Some).ready.holds

pub cells_below-requires-clause-room : goal.cells_below-requires-clause-room
cells_below-requires-clause-room c =
    let inside = (known (goal.at.cells_below-requires-clause-room c).In-Some).room.inside in
    omega (arith, inside)

pub graft_cells-requires-clause-can : goal.graft_cells-requires-clause-can
graft_cells-requires-clause-can c =
    let i = c.self.inside in
    let r = known (goal.at.graft_cells-requires-clause-can c).In-Some in
    can_graft i.version i.cells.bins i.root c.args.place.at r.host _ c.above_at-above.result c.security-shared.result.now
    c.in_ok-key.key c.in-Some.at r.ready r.room

pub graft_cells-requires-clause-run : goal.graft_cells-requires-clause-run
graft_cells-requires-clause-run c =
    let i = c.self.inside in
    c.as_slice.ensures ∙ c.in_ok-run.ensures
    ∙ run_is i.cells.bins i.root i.version c.args.parent.now c.args.name.now c.args.place c.above_at-above.result
    c.security-shared.result.now c.in_ok-key.key c.in-Some.at
    (known (goal.at.graft_cells-requires-clause-run c).In-Some)

pub invariant_of-self : goal.invariant_of-self
invariant_of-self c =
    let i = c.self.inside in
    let r = known (goal.at.invariant_of-self c).In-Some in
    still_or i.cells.bins c.graft_cells.new.heap.bins i.root c.args.place.at r.host _ i.version i.bulk c.above_at-above.result
    c.security-shared.result.now c.in_ok-key.key c.in-Some.at c.self.invariant r.ready c.in_err-done.ensures.refused

pub invariant_of-self-then-not-done : goal.invariant_of-self-then-not-done
invariant_of-self-then-not-done c =
    let i = c.self.inside in
    let r = known (goal.at.invariant_of-self-then-not-done c).In-Some in
    let l = lacks (goal.at.invariant_of-self-then-not-done c).Then-not-done in
    still_hive i.cells.bins c.graft_cells.new.heap.bins i.root c.args.place.at r.host _ i.version i.bulk c.above_at-above.result
    c.security-shared.result.now c.in_ok-key.key c.in-Some.at c.self.invariant r.ready l.put

pub returns-then-not-done-clause-made : goal.returns-then-not-done-clause-made
returns-then-not-done-clause-made c =
    let i = c.self.inside in
    let r = known (goal.at.returns-then-not-done-clause-made c).In-Some in
    list_lacks i.cells c.graft_cells.new.heap.bins i.root i.version c.args.self.now c.args.parent.now c.args.name.now
    c.args.place c.above_at-above.result c.security-shared.result.now c.in_ok-key.key c.in-Some.at c.self.view_is r
    (lacks (goal.at.returns-then-not-done-clause-made c).Then-not-done)

-- the key is made
made : (c : After-are_bytes) → let i = c.self.inside in
    IsStepMade c.args.self.now c.graft_cells.new.heap i.root i.version c.args.place.bulk
    (make_key c.args.parent.now c.args.name.now)
made c =
    let i = c.self.inside in
    key_made i.cells c.graft_cells.new.heap i.root i.version i.bulk c.args.self.now c.args.parent.now c.args.name.now
    c.args.place c.above_at-above.result c.security-shared.result.now c.in_ok-key.key c.in-Some.at c.self.invariant
    c.self.view_is (known (goal.at.After-are_bytes c).In-Some)
    (if_done _ _ _ c.if-not-done.false c.in_ok-done.ensures.grafted) c.are_bytes.ensures

pub invariant_of-self-2 : goal.invariant_of-self-2
invariant_of-self-2 c = (made (goal.at.invariant_of-self-2 c).After-are_bytes).hive

told : (c : After-tell) → IsToldStep c.args.self.now (make_key c.args.parent.now c.args.name.now) c.tell.new.self
told c =
    let i = c.self.inside in
    made_told c.args.self.now (hive_of c.graft_cells.new.heap i.root i.version) c.tell.new.self
    c.args.parent.now c.args.name.now c.wide_len-wide.result c.stands.ensures
    (made (goal.at.After-tell c).After-are_bytes).stepped c.wide_len-wide.ensures c.tell.ensures.told

pub returns-clause-made : goal.returns-clause-made
returns-clause-made c = told (goal.at.returns-clause-made c).After-tell

pub returns-in_err-done-clause-grown : goal.returns-in_err-done-clause-grown
returns-in_err-done-clause-grown c =
    let i = c.self.inside in
    no_shorter i.cells c.graft_cells.new.heap.bins i.root i.version c.args.self.now c.args.place.at c.above_at-above.result
    c.security-shared.result.now c.in_ok-key.key c.in-Some.at c.self.view_is c.in_err-done.ensures.refused

pub returns-then-not-done-clause-grown : goal.returns-then-not-done-clause-grown
returns-then-not-done-clause-grown c =
    let i = c.self.inside in
    let l = lacks (goal.at.returns-then-not-done-clause-grown c).Then-not-done in
    no_shorter i.cells c.graft_cells.new.heap.bins i.root i.version c.args.self.now c.args.place.at c.above_at-above.result
    c.security-shared.result.now c.in_ok-key.key c.in-Some.at c.self.view_is (inr l.put)

pub returns-clause-grown : goal.returns-clause-grown
returns-clause-grown c = (told (goal.at.returns-clause-grown c).After-tell).stepped.long

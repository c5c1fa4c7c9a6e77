use Rattle.std.proofs.Common.{inr, ◌∙◌}
use Rattle.hive_edit.specs.Grafted.{LacksGraftLists}
use Rattle.hive_edit.proofs.SteppedLemmas.{if_done, if_undone}
use Rattle.hive_edit.proofs.ChildLemmas.{IsGraftMade, ReadyAt, ready_at, can_graft, graft_made, no_shorter, still_hive, still_or, lacks_lists}
use Rattle.hive_edit.proofs.hive.HiveBytes.graft_at.Goals as goal
use Rattle.hive_edit.proofs.hive.HiveBytes.graft_at.Goals.{After-are_bytes, After-offset_fits, Then-not-done}

-- what is known of the root, the key and its place
known : (c : After-offset_fits) → ReadyAt c.self.inside.version c.self.inside.cells c.self.inside.root c.args.above
    c.args.shared.now c.args.key.now c.args.own c.args.at
known c =
    let i = c.self.inside in
    ready_at i.cells i.root i.version i.bulk c.args.self.now c.args.above c.args.shared.now c.args.key.now c.args.own
    c.args.bytes c.args.at c.self.invariant c.self.view_is
    (record {
      child = c.requires.new;
      may = c.requires.may;
      own_is = c.requires.own;
      long = c.requires.size;
      place = c.requires.place;
    })
    c.offset_fits.ensures

-- there is no room for the root's lists
lacks : (c : Then-not-done) → let i = c.self.inside in LacksGraftLists i.version i.root c.args.above c.args.shared.now
    c.args.key.now c.args.at i.cells.bins c.graft_cells.new.heap.bins
lacks c = if_undone _ _ _ c.if-not-done.true c.in_ok-done.ensures.grafted

pub cells_below-requires-clause-valid : goal.cells_below-requires-clause-valid
cells_below-requires-clause-valid c = c.requires.new.holds

pub cells_below-requires-clause-room : goal.cells_below-requires-clause-room
cells_below-requires-clause-room c = (known (goal.at.cells_below-requires-clause-room c).After-offset_fits).place.inside

pub graft_cells-requires-clause-can : goal.graft_cells-requires-clause-can
graft_cells-requires-clause-can c =
    let i = c.self.inside in
    let r = known (goal.at.graft_cells-requires-clause-can c).After-offset_fits in
    can_graft i.version i.cells.bins i.root i.root _ 511 c.args.above c.args.shared.now c.args.key.now c.args.at r.ready r.place

pub graft_cells-requires-clause-run : goal.graft_cells-requires-clause-run
graft_cells-requires-clause-run c = c.as_slice.ensures ∙ c.in_ok-run.ensures

pub invariant_of-self : goal.invariant_of-self
invariant_of-self c =
    let i = c.self.inside in
    let r = known (goal.at.invariant_of-self c).After-offset_fits in
    still_or i.cells.bins c.graft_cells.new.heap.bins i.root i.root _ 511 i.version i.bulk c.args.above c.args.shared.now
    c.args.key.now c.args.at c.self.invariant r.ready c.in_err-done.ensures.refused

pub invariant_of-self-then-not-done : goal.invariant_of-self-then-not-done
invariant_of-self-then-not-done c =
    let i = c.self.inside in
    let r = known (goal.at.invariant_of-self-then-not-done c).After-offset_fits in
    let l = lacks (goal.at.invariant_of-self-then-not-done c).Then-not-done in
    still_hive i.cells.bins c.graft_cells.new.heap.bins i.root i.root _ 511 i.version i.bulk c.args.above c.args.shared.now
    c.args.key.now c.args.at c.self.invariant r.ready l.put

pub returns-then-not-done-clause-grafted : goal.returns-then-not-done-clause-grafted
returns-then-not-done-clause-grafted c =
    let i = c.self.inside in
    let r = known (goal.at.returns-then-not-done-clause-grafted c).After-offset_fits in
    lacks_lists i.cells c.graft_cells.new.heap.bins i.root i.version c.args.self.now c.args.above
    c.args.shared.now c.args.key.now c.args.at c.self.view_is r.ready
    (lacks (goal.at.returns-then-not-done-clause-grafted c).Then-not-done)

-- the key is the root's child
made : (c : After-are_bytes) → let i = c.self.inside in
    IsGraftMade c.args.self.now c.graft_cells.new.heap i.root i.version c.grafted_bulk-bulk.result c.args.above.security
    c.args.shared.now c.args.key.now
made c =
    let i = c.self.inside in
    let r = known (goal.at.After-are_bytes c).After-offset_fits in
    graft_made i.cells c.graft_cells.new.heap i.root i.version i.bulk c.args.own c.grafted_bulk-bulk.result
    c.args.self.now c.args.above c.args.shared.now c.args.key.now c.args.at c.self.invariant c.self.view_is r.ready
    r.child (if_done _ _ _ c.if-not-done.false c.in_ok-done.ensures.grafted) c.are_bytes.ensures r.own_is
    c.grafted_bulk-bulk.ensures

pub invariant_of-self-2 : goal.invariant_of-self-2
invariant_of-self-2 c = (made (goal.at.invariant_of-self-2 c).After-are_bytes).hive

pub returns-clause-grafted : goal.returns-clause-grafted
returns-clause-grafted c = (made (goal.at.returns-clause-grafted c).After-are_bytes).made

pub returns-in_err-done-clause-grown : goal.returns-in_err-done-clause-grown
returns-in_err-done-clause-grown c =
    let i = c.self.inside in
    no_shorter i.cells c.graft_cells.new.heap.bins i.root i.version c.args.self.now i.root c.args.above c.args.shared.now
    c.args.key.now c.args.at c.self.view_is c.in_err-done.ensures.refused

pub returns-then-not-done-clause-grown : goal.returns-then-not-done-clause-grown
returns-then-not-done-clause-grown c =
    let i = c.self.inside in
    let l = lacks (goal.at.returns-then-not-done-clause-grown c).Then-not-done in
    no_shorter i.cells c.graft_cells.new.heap.bins i.root i.version c.args.self.now i.root c.args.above c.args.shared.now
    c.args.key.now c.args.at c.self.view_is (inr l.put)

pub returns-clause-grown : goal.returns-clause-grown
returns-clause-grown c = (made (goal.at.returns-clause-grown c).After-are_bytes).made.long

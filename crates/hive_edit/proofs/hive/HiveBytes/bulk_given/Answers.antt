use Rattle.std.proofs.Common.{◌≡◌, ◌≤◌, ◌+◌, ◌-◌, arith}
use Rattle.hive_model.specs.Size.{bulk_of}
use Rattle.hive_edit.specs.NewValue.{set_tree}
use Rattle.hive_edit.proofs.LowLemmas.{bulk_low}
use Rattle.hive_edit.proofs.ThereLemmas.{there_step, there_here, there_bulk, room_same}
use Rattle.hive_edit.proofs.hive.HiveBytes.bulk_given.Goals as goal
use Rattle.hive_edit.proofs.hive.HiveBytes.bulk_given.Goals.{After-data_len-has}

pub data_room-had-requires : goal.data_room-had-requires
data_room-had-requires c =
    let i = c.self.inside in
    there_here i.cells c.cells.result.now i.root i.version i.bulk c.args.self.now c.args.path.now c.args.name.now
    c.args.at c.self.invariant c.cells.ensures c.self.view_is c.requires.there

pub overflow_add-result : goal.overflow_add-result
overflow_add-result c =
    let i = c.self.inside in
    let low = bulk_low i.cells.bins i.root i.version i.bulk c.self.invariant c.bins_fit.ensures in
    omega (arith, low, c.data_len-has.ensures.len)

-- the bulk with the data, but without what was there
bulk : (c : After-data_len-has) → let i = c.self.inside in let h = c.args.self.now in
    let with_it = i.bulk + c.data_len-has.result in
    (c.data_room-had.result ≤ with_it) × (with_it - c.data_room-had.result
    ≡ bulk_of h.version (set_tree c.args.path.now c.args.name.now c.args.kind c.args.bytes.now h.tree))
bulk c =
    let i = c.self.inside in
    let had = room_same i.cells.bins c.cells.result.now i.version c.args.at c.data_room-had.result c.cells.ensures
    c.data_room-had.ensures.room in
    there_bulk i.cells i.root i.version i.bulk c.args.self.now c.args.path.now c.args.name.now c.args.kind
    c.args.bytes.now c.args.at c.data_len-has.result c.data_room-had.result
    c.self.invariant c.self.view_is c.requires.there c.bins_fit.ensures c.data_len-has.ensures.len
    (omega (arith, c.data_len-has.ensures.len)) had

pub overflow_sub-result : goal.overflow_sub-result
overflow_sub-result c = (bulk (goal.at.overflow_sub-result c).After-data_len-has).0

pub returns-clause-bulk : goal.returns-clause-bulk
returns-clause-bulk c = (bulk (goal.at.returns-clause-bulk c).After-data_len-has).1

pub returns-clause-step : goal.returns-clause-step
returns-clause-step c =
    let i = c.self.inside in
    there_step i.cells i.root i.version i.bulk c.args.self.now c.args.path.now c.args.name.now c.args.kind
    c.args.bytes.now c.args.at c.self.invariant c.self.view_is c.requires.there c.requires.few

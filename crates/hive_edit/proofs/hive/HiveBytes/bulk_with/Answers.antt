use Rattle.std.proofs.Common.{◌≡◌, ◌≤◌, ◌+◌, ◌-◌, arith}
use Rattle.hive_model.specs.Bins.{look_up}
use Rattle.hive_model.specs.KeyNode.{key_node_at}
use Rattle.hive_model.specs.Size.{bulk_of}
use Rattle.hive_model.specs.Walk.{reading}
use Rattle.hive_edit.specs.NewValue.{set_tree}
use Rattle.hive_edit.proofs.NewValueLemmas.{new_step, hive_can_add, new_bulk}
use Rattle.hive_edit.proofs.LowLemmas.{bulk_low}
use Rattle.hive_edit.proofs.hive.HiveBytes.bulk_with.Goals as goal
use Rattle.hive_edit.proofs.hive.HiveBytes.bulk_with.Goals.{After-list_len}
use Rattle.key_index.proofs.Tests.{is_ok_of}

pub values_of-count-requires : goal.values_of-count-requires
values_of-count-requires c =
    let i = c.self.inside in
    let can = hive_can_add i.cells i.root i.version i.bulk c.args.self.now c.args.path.now c.args.name.now c.args.key
    c.self.invariant c.self.view_is c.requires.new in
    is_ok_of (reading key_node_at (look_up i.version i.cells.bins) c.args.key) can.node can.read

pub overflow_add-result : goal.overflow_add-result
overflow_add-result c =
    let i = c.self.inside in
    let low = bulk_low i.cells.bins i.root i.version i.bulk c.self.invariant c.bins_fit.ensures in
    omega (arith, low, c.added_len-more.ensures.few)

-- the bulk with the value
bulk : (c : After-list_len) → let i = c.self.inside in let h = c.args.self.now in
    let with_it = i.bulk + c.added_len-more.result in
    (c.list_len.result ≤ with_it) × (with_it - c.list_len.result
    ≡ bulk_of h.version (set_tree c.args.path.now c.args.name.now c.args.kind c.args.bytes.now h.tree))
bulk c =
    let i = c.self.inside in
    new_bulk i.cells i.root i.version i.bulk c.args.self.now c.args.path.now c.args.name.now c.args.key c.args.kind
    c.args.bytes.now c.values_of-count.result.0 c.added_len-more.result c.list_len.result
    c.self.invariant c.self.view_is c.requires.new c.bins_fit.ensures (λ n r. (c.values_of-count.ensures n r).0)
    c.added_len-more.ensures.exact c.added_len-more.ensures.few c.list_len.ensures

pub overflow_sub-result : goal.overflow_sub-result
overflow_sub-result c = (bulk (goal.at.overflow_sub-result c).After-list_len).0

pub returns-clause-bulk : goal.returns-clause-bulk
returns-clause-bulk c = (bulk (goal.at.returns-clause-bulk c).After-list_len).1

pub returns-clause-step : goal.returns-clause-step
returns-clause-step c =
    let i = c.self.inside in
    new_step i.cells i.root i.version i.bulk c.args.self.now c.args.path.now c.args.name.now c.args.key c.args.kind
    c.args.bytes.now c.self.invariant c.self.view_is c.requires.new c.requires.few

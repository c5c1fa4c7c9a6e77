use Rattle.std.proofs.Common.{◌≡◌, ◌≤◌, ◌+◌, ◌-◌, ℕ, List, length, sym, subst, ap, ◌∙◌, arith}
use Rattle.hive_model.specs.Bins.{look_up}
use Rattle.hive_model.specs.KeyNode.{key_node_at}
use Rattle.hive_model.specs.Lists.{AreOffsets}
use Rattle.hive_model.specs.Packed.{text}
use Rattle.hive_model.specs.Walk.{reading}
use Rattle.edited_cells.specs.Done.{item}
use Rattle.reg_tree.proofs.Outcomes.{on_ok}
use Rattle.hive_edit.specs.NewValue.{ListsThese, added_cells, added_size}
use Rattle.hive_cells.specs.Held.{IsRun}
use Rattle.hive_edit.specs.Runs.{IsPlace}
use Rattle.hive_edit.proofs.NewCellsLemmas.{adds_value, apart_here, listed_here, node_held}
use Rattle.hive_edit.proofs.NewRunLemmas.{IsAddedRun, added_run, list_held, listed_few}
use Rattle.hive_edit.proofs.new_value.add_at.Goals as goal
use Rattle.hive_edit.proofs.new_value.add_at.Goals.{After-values_of-count, In_ok-run}
use Rattle.key_index.proofs.Tests.{is_ok_of}

-- the count and the list are the node's
counted : (c : After-values_of-count) → let n = c.requires.can.node in
    (c.values_of-count.result.0 ≡ n.value_count) × (c.values_of-count.result.1 ≡ n.value_list)
counted c = c.values_of-count.ensures c.requires.can.node c.requires.can.read

listed : (c : After-values_of-count)
    → ListsThese c.args.heap.now.bins c.values_of-count.result.1 c.values_of-count.result.0 c.requires.can.offsets
listed c =
    listed_here c.args.version c.args.heap.now.bins c.args.key c.values_of-count.result.0 c.values_of-count.result.1
    c.requires.can (counted c).0 (counted c).1

few : (c : After-values_of-count) → c.values_of-count.result.0 ≤ 4194304
few c =
    listed_few c.args.heap.now.bins c.values_of-count.result.1 c.values_of-count.result.0 c.requires.can.offsets (listed c)
    c.bins_fit.ensures

room : (c : After-values_of-count) → let v = item c.args.name.now c.args.kind c.args.bytes.now in
    c.args.place + added_size c.args.version c.values_of-count.result.0 v ≤ 16777216
room c =
    let v = item c.args.name.now c.args.kind c.args.bytes.now in
    subst (λ (k : ℕ). c.args.place + added_size c.args.version k v ≤ 16777216) (sym (counted c).0)
    (c.requires.place c.requires.can.node c.requires.can.read).inside

-- the run is the value's cells and the list
run_is : (c : In_ok-run) → let v = item c.args.name.now c.args.kind c.args.bytes.now in
    c.in_ok-run.run' ≡ text (added_cells c.args.version c.args.place c.requires.can.offsets v)
run_is c =
    let v = item c.args.name.now c.args.kind c.args.bytes.now in
    c.in_ok-run.ensures
    ∙ ap (λ (os : List ℕ). text (added_cells c.args.version c.args.place os v))
    (c.list_bytes-old.ensures.offsets c.requires.can.offsets (listed (goal.at.In_ok-run c).After-values_of-count))

run : (c : In_ok-run) → IsAddedRun c.args.version c.args.place c.values_of-count.result.0 c.requires.can.offsets
    (item c.args.name.now c.args.kind c.args.bytes.now) c.in_ok-run.run'
run c =
    let before = (goal.at.In_ok-run c).After-values_of-count in
    added_run c.args.version c.args.place c.values_of-count.result.0 c.requires.can.offsets
    (item c.args.name.now c.args.kind c.args.bytes.now) c.in_ok-run.run' (listed before).number (run_is c) (room before)

pub values_of-count-requires : goal.values_of-count-requires
values_of-count-requires c =
    is_ok_of (reading key_node_at (look_up c.args.version c.args.heap.now.bins) c.args.key)
    c.requires.can.node c.requires.can.read

pub list_bytes-old-requires : goal.list_bytes-old-requires
list_bytes-old-requires c =
    (c.requires.can.offsets, listed (goal.at.list_bytes-old-requires c).After-values_of-count)

pub added_run-requires-clause-room : goal.added_run-requires-clause-room
added_run-requires-clause-room c = room (goal.at.added_run-requires-clause-room c).After-values_of-count

pub cell_size-requires : goal.cell_size-requires
cell_size-requires c = omega (arith, few (goal.at.cell_size-requires c).After-values_of-count)

pub overflow_sub-at : goal.overflow_sub-at
overflow_sub-at c = omega (arith, c.len.ensures, c.cell_size.ensures, (run (goal.at.overflow_sub-at c).In_ok-run).long)

pub overflow_cast-at : goal.overflow_cast-at
overflow_cast-at c =
    let way = goal.at.overflow_cast-at c in
    omega (arith, c.len.ensures, c.cell_size.ensures, (run way.In_ok-run).long, room way.After-values_of-count)

pub overflow_add-at : goal.overflow_add-at
overflow_add-at c =
    let way = goal.at.overflow_add-at c in
    omega (arith, c.len.ensures, c.cell_size.ensures, (run way.In_ok-run).long, room way.After-values_of-count)

pub relist-requires-clause-few : goal.relist-requires-clause-few
relist-requires-clause-few c = few (goal.at.relist-requires-clause-few c).After-values_of-count

pub relist-requires-clause-place : goal.relist-requires-clause-place
relist-requires-clause-place c =
    let way = goal.at.relist-requires-clause-place c in
    let v = item c.args.name.now c.args.kind c.args.bytes.now in
    subst (λ (m : ℕ). IsPlace m c.args.heap.now.bins c.args.place)
    (sym (ap length c.as_slice.ensures ∙ (run way.In_ok-run).long
    ∙ ap (λ (k : ℕ). added_size c.args.version k v) (counted way.After-values_of-count).0))
    (c.requires.place c.requires.can.node c.requires.can.read)

pub relist-requires-clause-run : goal.relist-requires-clause-run
relist-requires-clause-run c =
    subst IsRun (sym c.as_slice.ensures) (run (goal.at.relist-requires-clause-run c).In_ok-run).sound

pub relist-requires-clause-node : goal.relist-requires-clause-node
relist-requires-clause-node c =
    node_held c.args.version c.args.heap.now.bins c.args.key c.requires.can.node c.requires.can.read

pub relist-requires-clause-list : goal.relist-requires-clause-list
relist-requires-clause-list c = λ some_values.
    list_held c.args.heap.now.bins c.values_of-count.result.1 c.values_of-count.result.0 c.requires.can.offsets
    (listed (goal.at.relist-requires-clause-list c).After-values_of-count) some_values

pub relist-requires-clause-apart : goal.relist-requires-clause-apart
relist-requires-clause-apart c = λ some_values.
    let n = counted (goal.at.relist-requires-clause-apart c).After-values_of-count in
    apart_here c.args.version c.args.heap.now.bins c.args.key c.values_of-count.result.0 c.values_of-count.result.1
    c.requires.can n.0 n.1 some_values

pub returns-clause-put : goal.returns-clause-put
returns-clause-put c =
    let way = goal.at.returns-clause-put c in
    let before = way.After-values_of-count in
    let n = counted before in
    on_ok c.relist.result _ _
    (λ r. adds_value c.args.version c.args.heap.now.bins c.relist.new.heap.bins c.args.key c.args.place
    (c.args.place + (c.len.result - c.cell_size.result))
    c.values_of-count.result.0 c.values_of-count.result.1 (item c.args.name.now c.args.kind c.args.bytes.now)
    c.as_slice.result.now c.requires.can (omega (arith, c.len.ensures, c.cell_size.ensures, (run way.In_ok-run).long)) n.0 n.1
    (c.as_slice.ensures ∙ run_is way.In_ok-run) (room before)
    (subst AreOffsets (c.list_bytes-old.ensures.offsets c.requires.can.offsets (listed before)) c.offsets_fit.ensures)
    (record { name = c.requires.short; bytes = omega (arith, c.requires.few) })
    (record {
      units = λ k. omega (arith, c.type_inv.name k);
      kind = omega arith;
      bytes = λ k. omega (arith, c.type_inv.bytes k);
    })
    (few before) c.requires.few r)
    c.relist.ensures.put

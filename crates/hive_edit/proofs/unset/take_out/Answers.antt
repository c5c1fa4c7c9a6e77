use Rattle.std.proofs.Common.{ℕ, sym, subst, ap, length, arith}
use Rattle.hive_edit.specs.Gone.{HasOffsets, Unlists}
use Rattle.hive_edit.proofs.UnsetLemmas.{can_count, list_after, node_room, takes_out}
use Rattle.hive_model.specs.Bins.{look_up}
use Rattle.hive_model.specs.KeyNode.{key_node_at}
use Rattle.hive_model.specs.Walk.{reading}
use Rattle.hive_edit.proofs.unset.take_out.Goals as goal
use Rattle.hive_edit.proofs.unset.take_out.Goals.{After-free_value, After-unlist-now}
use Rattle.key_index.proofs.Tests.{is_ok_of}

-- the list is as it was, once the value's cells are freed
listed : (c : After-free_value) → HasOffsets c.free_value.new.heap.bins c.values_of-count.result.1 c.values_of-count.result.0
    c.requires.offsets
listed c =
    let t = c.requires in
    let n = c.values_of-count.ensures t.node t.read in
    subst (λ (k : ℕ). HasOffsets c.free_value.new.heap.bins k c.values_of-count.result.0 t.offsets) (sym n.1)
    (subst (λ (k : ℕ). HasOffsets c.free_value.new.heap.bins t.node.value_list k t.offsets) (sym n.0)
    (list_after (look_up c.args.version c.args.heap.now.bins) c.args.heap.now.bins c.free_value.new.heap.bins c.args.key
    c.args.value t c.free_value.ensures.gone))

unlisted : (c : After-unlist-now) → Unlists c.free_value.new.heap.bins c.unlist-now.new.heap.bins
    c.requires.node.value_list c.unlist-now.result c.requires.offsets c.args.value
unlisted c =
    let t = c.requires in
    subst (λ (k : ℕ). Unlists c.free_value.new.heap.bins c.unlist-now.new.heap.bins k c.unlist-now.result t.offsets c.args.value)
    (c.values_of-count.ensures t.node t.read).1
    (c.unlist-now.ensures.unlisted t.offsets (listed (goal.at.After-unlist-now c).After-free_value))

pub values_of-count-requires : goal.values_of-count-requires
values_of-count-requires c =
    is_ok_of (reading key_node_at (look_up c.args.version c.args.heap.now.bins) c.args.key) c.requires.node c.requires.read

pub unlist-now-requires : goal.unlist-now-requires
unlist-now-requires c =
    (c.requires.offsets, listed (goal.at.unlist-now-requires c).After-free_value, c.requires.among)

pub overflow_sub-count : goal.overflow_sub-count
overflow_sub-count c =
    let t = c.requires in
    omega (
      arith,
      (c.values_of-count.ensures t.node t.read).0,
      can_count (look_up c.args.version c.args.heap.now.bins) c.args.heap.now.bins c.args.key c.args.value t,
    )

pub patch-requires : goal.patch-requires
patch-requires c =
    node_room c.args.version c.args.heap.now.bins c.free_value.new.heap.bins c.unlist-now.new.heap.bins c.args.key c.args.value
    c.unlist-now.result (length c.two_fields-fields.result) c.requires c.free_value.ensures.gone
    (unlisted (goal.at.patch-requires c).After-unlist-now) (ap length c.two_fields-fields.ensures)

pub returns-clause-taken : goal.returns-clause-taken
returns-clause-taken c =
    takes_out c.args.version c.args.heap.now.bins c.free_value.new.heap.bins c.unlist-now.new.heap.bins c.patch.new.self.bins
    c.args.key c.args.value c.values_of-count.result.0 c.unlist-now.result c.two_fields-fields.result c.requires
    c.free_value.ensures.gone (unlisted (goal.at.returns-clause-taken c).After-unlist-now)
    (c.values_of-count.ensures c.requires.node c.requires.read).0 (omega arith) (omega arith)
    c.two_fields-fields.ensures c.patch.ensures.here c.patch.ensures.others c.patch.ensures.long

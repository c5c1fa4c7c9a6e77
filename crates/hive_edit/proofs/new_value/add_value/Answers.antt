use Rattle.std.proofs.Common.{◌<◌, ◌+◌, ℕ, refl, subst, ap, ◌∙◌}
use Rattle.hive_model.specs.Bins.{look_up, bins_size}
use Rattle.hive_model.specs.KeyNode.{key_node_at}
use Rattle.hive_model.specs.Walk.{reading}
use Rattle.hive_cells.specs.Holes.{new_bin_size}
use Rattle.edited_cells.specs.Done.{item}
use Rattle.hive_edit.specs.NewValue.{LacksRoomForValue, added_size}
use Rattle.hive_edit.specs.Runs.{IsPlace}
use Rattle.hive_edit.proofs.NewCellsLemmas.{far_over, lacks_room}
use Rattle.hive_edit.proofs.new_value.add_value.Goals as goal
use Rattle.hive_edit.proofs.new_value.add_value.Goals.{After-added_len-size}
use Rattle.key_index.proofs.Tests.{is_ok_of}

pub values_of-count-requires : goal.values_of-count-requires
values_of-count-requires c =
    is_ok_of (reading key_node_at (look_up c.args.version c.args.heap.now.bins) c.args.key)
    c.requires.can.node c.requires.can.read

-- a run of that many bytes does not fit
lacks : (c : After-added_len-size) → let b = c.args.heap.now.bins in
    16777216 < bins_size b + new_bin_size c.added_len-size.result
    → LacksRoomForValue c.args.version b c.args.key (item c.args.name.now c.args.kind c.args.bytes.now)
lacks c over =
    let can = c.requires.can in
    lacks_room c.args.version c.args.heap.now.bins c.args.key c.values_of-count.result.0 c.added_len-size.result
    (item c.args.name.now c.args.kind c.args.bytes.now) can (c.values_of-count.ensures can.node can.read).0
    c.added_len-size.ensures.exact over

pub returns-then-size-gt-MOST_BINS-clause-put : goal.returns-then-size-gt-MOST_BINS-clause-put
returns-then-size-gt-MOST_BINS-clause-put c = (
  lacks (goal.at.returns-then-size-gt-MOST_BINS-clause-put c).After-added_len-size
      (far_over (bins_size c.args.heap.now.bins) c.added_len-size.result c.if-size-gt-MOST_BINS.true),
  refl,
)

pub returns-in-None-clause-put : goal.returns-in-None-clause-put
returns-in-None-clause-put c = (lacks (goal.at.returns-in-None-clause-put c).After-added_len-size c.in-None.ensures.1, refl)

pub add_at-requires-clause-place : goal.add_at-requires-clause-place
add_at-requires-clause-place c = λ n r.
    let v = item c.args.name.now c.args.kind c.args.bytes.now in
    let same = c.added_len-size.ensures.exact
    ∙ ap (λ (k : ℕ). added_size c.args.version k v) (c.values_of-count.ensures n r).0 in
    subst (λ (m : ℕ). IsPlace m c.args.heap.now.bins c.in-Some.place) same c.in-Some.ensures

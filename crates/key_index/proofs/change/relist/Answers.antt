use Rattle.std.proofs.Common.{◌+◌, ◌≤◌, length, refl, ap, ◌∙◌, arith}
use Rattle.hive_model.specs.Bins.{bins_size}
use Rattle.hive_model.specs.Size.{list_size}
use Rattle.hive_model.specs.Packed.{list_cells}
use Rattle.hive_cells.specs.Holes.{FindsRoom}
use Rattle.hive_pack.proofs.Rows.{length_text, space_list}
use Rattle.key_index.proofs.Runs.{list_least, strain_over, none_over, room_inside, relisted}
use Rattle.key_index.proofs.change.relist.Goals as goal
use Rattle.key_index.proofs.change.relist.Goals.{In-Some}

-- room was found, which ends within what offsets reach
found : (c : In-Some)
    → FindsRoom c.list_len-size.result c.args.heap.now.bins c.make_room.new.self.bins c.in-Some.at
found c = rw c.in-Some.is at c.in_ok-make_room.ensures.exact

within : (c : In-Some) → c.in-Some.at + list_size (length c.args.offsets.now) ≤ 16777216
within c =
    omega (
      arith,
      room_inside c.list_len-size.result c.args.heap.now.bins c.make_room.new.self.bins c.in-Some.at (found c)
          c.bins_fit.ensures,
      c.list_len-size.ensures,
    )

pub returns-then-n-gt2097152-clause-exact : goal.returns-then-n-gt2097152-clause-exact
returns-then-n-gt2097152-clause-exact c =
    let n = length c.args.offsets.now in
    let least = list_least n c.requires.some in
    (strain_over (bins_size c.args.heap.now.bins) n c.requires.some (omega (arith, least)), refl)

pub returns-then-size-clause-exact : goal.returns-then-size-clause-exact
returns-then-size-clause-exact c =
    let n = length c.args.offsets.now in
    (strain_over (bins_size c.args.heap.now.bins) n c.requires.some (omega (arith, c.list_len-size.ensures)), refl)

pub moved-run-requires-clause-long : goal.moved-run-requires-clause-long
moved-run-requires-clause-long c =
    let offsets = c.args.offsets.now in
    let hints = c.args.hints.now in
    ap length c.in_ok-run.ensures ∙ length_text (list_cells c.args.version 0 offsets hints)
    ∙ space_list c.args.version 0 offsets hints c.requires.same c.requires.four

pub moved-run-requires-clause-room : goal.moved-run-requires-clause-room
moved-run-requires-clause-room c = within (goal.at.moved-run-requires-clause-room c).In-Some

pub put-requires-clause-room : goal.put-requires-clause-room
put-requires-clause-room c = within (goal.at.put-requires-clause-room c).In-Some

pub returns-in-None-clause-exact : goal.returns-in-None-clause-exact
returns-in-None-clause-exact c =
    let full = rw c.in-None.is at c.in_ok-make_room.ensures.exact in
    let n = length c.args.offsets.now in (
      none_over c.list_len-size.result (bins_size c.args.heap.now.bins) n c.list_len-size.ensures c.requires.some full.1.0,
      full.1.1,
    )

pub returns-in-Some-clause-exact : goal.returns-in-Some-clause-exact
returns-in-Some-clause-exact c =
    relisted c.args.version c.args.gone.now c.args.offsets.now c.args.hints.now c.args.heap.now.bins c.make_room.new.self.bins
    c.put.new.heap.bins c.in-Some.at c.list_len-size.result
    c.put.ensures.put c.in_ok-make_room.ensures.held c.in_ok-make_room.ensures.long
    (found (goal.at.returns-in-Some-clause-exact c).In-Some) c.list_len-size.ensures
    c.requires.some

use Rattle.std.proofs.Common.{arith}
use Rattle.hive_edit.proofs.GoneLemmas.{room_in_list, found_early}
use Rattle.hive_edit.proofs.unset.place_of.Goals as goal

pub number_in-requires : goal.number_in-requires
number_in-requires c = room_in_list c.args.heap.now.bins c.args.list c.args.count c.loop-place.place c.requires.0
    c.requires.1 (omega arith)

pub unreachable-requires : goal.unreachable-requires
unreachable-requires c =
    found_early c.args.heap.now.bins c.args.list c.args.count c.args.offset c.loop-place.place c.requires.0 c.requires.1
    c.requires.2 c.loop-place-test.false c.loop-place.invariant

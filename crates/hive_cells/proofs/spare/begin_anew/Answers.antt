use Rattle.std.proofs.Common.{length, ap, arith}
use Rattle.hive_cells.proofs.RoomLemmas.{room_other}
use Rattle.hive_cells.proofs.spare.begin_anew.Goals as goal

pub clear-requires-2 : goal.clear-requires-2
clear-requires-2 c =
    let le = room_other c.args.count (length c.args.pages.now) (length c.args.spare.now) c.requires
    (λ here. omega (arith, here, c.len.ensures.count, c.if-count-len.false)) in
    omega (arith, le, ap length c.swap.ensures.x_after)

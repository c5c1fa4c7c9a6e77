use Rattle.std.proofs.Common.{◌∙◌, length, arith}
use Rattle.mem_edge.proofs.RoomLemmas.{room_step}
use Rattle.mem_edge.proofs.image.MemImage.make_room.Goals as goal

pub loop-rest-preserved : goal.loop-rest-preserved
loop-rest-preserved c =
    let made = c.make_place_for.ensures in
    let new = c.make_place_for.new.self in
    record {
      same = made.same ∙ c.loop-rest.invariant.same;
      room = λ primary log hp hl room.
          c.loop-rest.invariant.room primary log (omega arith) (omega arith)
          (room_step c.loop-rest.rest.now c.w-item.result (length new.primary.items) (length new.log.items)
          primary log c.in-len1-up.len_at_least c.w-item.is c.in_ok-make_place_for.ensures.place hp hl room);
    }

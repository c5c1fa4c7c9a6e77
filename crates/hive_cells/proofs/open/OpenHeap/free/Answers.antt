use Rattle.std.proofs.Common.{arith}
use Rattle.hive_model.specs.Bins.{bins_size}
use Rattle.hive_cells.proofs.RoomLemmas.{room_stays}
use Rattle.hive_cells.proofs.open.OpenHeap.free.Goals as goal

pub invariant_of-self : goal.invariant_of-self
invariant_of-self c =
    let i = c.self.inside in (
      c.free.ensures.index,
      c.free.ensures.covered,
      room_stays i.pages c.free.new.pages i.spare i.spare (bins_size i.cells) (bins_size c.free.new.self) c.self.invariant.2
          c.free.ensures.count (omega arith) c.free.ensures.long,
    )

use Rattle.std.proofs.Common.{arith}
use Rattle.hive_model.specs.Bins.{bins_size}
use Rattle.hive_cells.proofs.RoomLemmas.{room_stays}
use Rattle.hive_cells.proofs.open.OpenHeap.patch.Goals as goal

pub invariant_of-self : goal.invariant_of-self
invariant_of-self c =
    let i = c.self.inside in (
      rw c.patch.ensures.sizes c.self.invariant.0,
      c.patch.ensures.covered,
      room_stays i.pages c.patch.new.pages i.spare i.spare (bins_size i.cells) (bins_size c.patch.new.self) c.self.invariant.2
          c.patch.ensures.count (omega arith) c.patch.ensures.long,
    )

use Rattle.std.proofs.Common.{arith}
use Rattle.hive_model.specs.Bins.{bins_size}
use Rattle.hive_cells.proofs.RoomLemmas.{room_stays}
use Rattle.hive_cells.proofs.open.OpenHeap.fill.Goals as goal

pub invariant_of-self : goal.invariant_of-self
invariant_of-self c =
    let i = c.self.inside in (
      c.lower.ensures,
      c.fill-size.ensures.covered,
      room_stays i.pages c.fill-size.new.pages i.spare i.spare (bins_size i.cells) (bins_size c.fill-size.new.self) c.self.invariant.2
          c.fill-size.ensures.count (omega arith) c.fill-size.ensures.long,
    )

use Rattle.std.proofs.Common.{◌≡◌, ◌+◌, ◌*◌, ◌/◌, length, refl, ap, arith}
use Rattle.hive_model.specs.Bins.{bins_size}
use Rattle.hive_cells.specs.Holes.{new_bin_size}
use Rattle.hive_cells.proofs.KeptLemmas.{lengths}
use Rattle.hive_cells.proofs.RoomLemmas.{room_stays, room_grown}
use Rattle.cell_tables.proofs.CoveredLemmas.{covered_more}
use Rattle.hive_cells.proofs.open.OpenHeap.grow.Goals as goal

pub invariant_of-self : goal.invariant_of-self
invariant_of-self c =
    let i = c.self.inside in (
      c.self.invariant.0,
      c.self.invariant.1,
      room_stays i.pages i.pages i.spare c.widen_to.new.spare (bins_size i.cells) (bins_size i.cells) c.self.invariant.2 refl
          c.widen_to.ensures.more refl,
    )

pub invariant_of-self-2 : goal.invariant_of-self-2
invariant_of-self-2 c =
    let i = c.self.inside in
    let l = lengths i.cells c.opens.ensures in
    let wanted = (length c.bytes-long.result.now + c.from.result + 4127) / 4096 in
    let whole : 4096 * wanted ≡ bins_size i.cells + new_bin_size c.args.size =
    omega (arith, l.long, l.whole, ap length c.bytes-long.ensures, c.from.ensures) in (
      c.grow.ensures.index,
      covered_more i.pages (bins_size i.cells) (bins_size c.grow.new.self) c.self.invariant.1 c.grow.ensures.more,
      room_grown c.grow.result i.pages i.spare c.widen_to.new.spare i.cells c.grow.new.self c.args.size wanted
          c.self.invariant.2 c.widen_to.ensures.more c.in_ok-widen_to.ensures.ok whole c.grow.ensures.long
          c.grow.ensures.exact c.grow.ensures.refused,
    )

use Rattle.std.proofs.Common.{◌≡◌, ◌*◌, ◌/◌, ap, ◌∙◌, length, arith}
use Rattle.hive_model.specs.Bins.{bins_size, spelled}
use Rattle.hive_cells.specs.Opened.{Opened}
use Rattle.hive_cells.proofs.KeptLemmas.{lengths, base_now, covered_now}
use Rattle.hive_cells.proofs.RoomLemmas.{room_now, room_for}
use Rattle.hive_cells.proofs.open.OpenHeap.settle.Goals as goal
use Rattle.hive_cells.proofs.open.OpenHeap.settle.Goals.{After-bytes}

-- the pages fill the bytes
pages : (c : After-bytes) → 4096 * (length c.bytes.result.now / 4096) ≡ bins_size c.self.inside.cells
pages c = let l = lengths c.self.inside.cells c.opens.ensures in omega (arith, l.long, l.whole, ap length c.bytes.ensures)

pub begin_anew-requires : goal.begin_anew-requires
begin_anew-requires c =
    room_for c.self.inside.pages c.self.inside.spare (length c.bytes.result.now / 4096) (bins_size c.self.inside.cells)
    c.self.invariant.2 (pages (goal.at.begin_anew-requires c).After-bytes)

pub invariant_of-self : goal.invariant_of-self
invariant_of-self c =
    let all = pages (goal.at.invariant_of-self c).After-bytes in (
      c.self.invariant.0,
      covered_now c.begin_anew.new.pages c.self.inside.cells _ c.begin_anew.ensures all,
      room_now c.begin_anew.new.pages c.begin_anew.new.spare _ (bins_size c.self.inside.cells) c.begin_anew.ensures all,
    )

pub returns-clause-base : goal.returns-clause-base
returns-clause-base c =
    base_now c.begin_anew.new.pages c.self.inside.cells (length c.bytes.result.now / 4096) c.opens.ensures c.begin_anew.ensures
    (pages (goal.at.returns-clause-base c).After-bytes)
    ∙ ap (λ (o : Opened). spelled 0 o.bins) c.self.view_is

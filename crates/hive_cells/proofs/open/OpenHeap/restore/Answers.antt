use Rattle.std.proofs.Common.{◌≡◌, ◌*◌, length, sym, ap, ◌∙◌, arith}
use Rattle.hive_model.specs.Bins.{bins_size}
use Rattle.hive_cells.specs.Opened.{Opened}
use Rattle.hive_cells.proofs.SizeLemmas.{length_bins}
use Rattle.hive_cells.proofs.KeptLemmas.{base_long, base_now, covered_now, put_long}
use Rattle.hive_cells.proofs.RoomLemmas.{room_now}
use Rattle.hive_cells.proofs.open.OpenHeap.restore.Goals as goal
use Rattle.hive_cells.proofs.open.OpenHeap.restore.Goals.{After-restore}

-- the pages fill the bytes
pages : (c : After-restore) → 4096 * c.len-count.result ≡ bins_size c.restore.new.self
pages c =
    omega (
      arith,
      c.len-count.ensures.count,
      put_long c.self.inside.pages c.self.inside.cells c.restore.new.self c.opens.ensures c.len-count.ensures.whole
          c.self.invariant.1 c.restore.ensures,
    )

pub restore-requires-clause-long : goal.restore-requires-clause-long
restore-requires-clause-long c =
    omega (
      arith,
      c.requires.long,
      base_long c.self.inside.pages c.self.inside.cells c.opens.ensures c.len-count.ensures.whole c.self.invariant.1,
      ap (λ (o : Opened). length o.base) c.self.view_is,
      ap (λ (o : Opened). bins_size o.bins) c.self.view_is,
    )

pub recount-requires-clause-whole : goal.recount-requires-clause-whole
recount-requires-clause-whole c =
    omega (
      arith,
      pages (goal.at.recount-requires-clause-whole c).After-restore,
      length_bins c.restore.new.self c.restore.ensures.0.each,
    )

pub recount-requires-clause-within : goal.recount-requires-clause-within
recount-requires-clause-within c =
    omega (
      arith,
      c.requires.long,
      c.len-count.ensures.count,
      base_long c.self.inside.pages c.self.inside.cells c.opens.ensures c.len-count.ensures.whole c.self.invariant.1,
      ap (λ (o : Opened). length o.base) c.self.view_is,
      ap (λ (o : Opened). bins_size o.bins) c.self.view_is,
      length_bins c.self.inside.cells c.opens.ensures.each,
      c.self.invariant.0.whole,
    )

pub invariant_of-self : goal.invariant_of-self
invariant_of-self c =
    let all = pages (goal.at.invariant_of-self c).After-restore in (
      c.recount.ensures,
      covered_now c.clear.new.self c.restore.new.self c.len-count.result c.clear.ensures all,
      room_now c.clear.new.self c.self.inside.spare c.len-count.result (bins_size c.restore.new.self) c.clear.ensures all,
    )

pub returns-clause-base : goal.returns-clause-base
returns-clause-base c =
    base_now c.clear.new.self c.restore.new.self c.len-count.result c.restore.ensures.0 c.clear.ensures
    (pages (goal.at.returns-clause-base c).After-restore)
    ∙ sym c.restore.ensures.1 ∙ ap (λ (o : Opened). o.base) c.self.view_is

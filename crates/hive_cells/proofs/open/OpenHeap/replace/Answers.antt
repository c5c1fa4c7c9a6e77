use Rattle.std.proofs.Common.{length, ap, ◌∙◌, arith}
use Rattle.hive_model.specs.Bins.{bins_size, spelled}
use Rattle.hive_cells.specs.Opened.{Opened}
use Rattle.hive_cells.proofs.KeptLemmas.{lengths}
use Rattle.cell_tables.specs.saved_pages.Overlay.{before}
use Rattle.cell_tables.proofs.CoveredLemmas.{all_kept, covered_more}
use Rattle.hive_cells.proofs.RoomLemmas.{room_longer}
use Rattle.hive_cells.proofs.open.OpenHeap.replace.Goals as goal

pub touch-requires-clause-covered : goal.touch-requires-clause-covered
touch-requires-clause-covered c =
    let l = lengths c.self.inside.cells c.opens.ensures in
    covered_more c.self.inside.pages (bins_size c.self.inside.cells) (length c.bytes-bytes.result.now)
    c.self.invariant.1 (omega (arith, l.long, ap length c.bytes-bytes.ensures))

pub invariant_of-self : goal.invariant_of-self
invariant_of-self c =
    let o = c.other.inside in (
      c.other.invariant.0,
      (λ k lt none. let there = c.touch.ensures.covered k lt none in
          absurd (c.touch.ensures.kept k (omega (arith, there)) (omega arith) (omega (arith, lt, c.touch.ensures.count)) none)),
      room_longer o.pages o.spare c.touch.new.pages c.keep_longer.new.spare (bins_size o.cells) c.other.invariant.2
          c.keep_longer.ensures.other c.keep_longer.ensures.there,
    )

pub returns-clause-base : goal.returns-clause-base
returns-clause-base c =
    all_kept c.touch.new.pages (spelled 0 c.other.inside.cells) c.bytes-bytes.result.now
    (λ k lt none. let there = c.touch.ensures.covered k lt none in
    c.touch.ensures.kept k (omega (arith, there)) (omega arith) (omega (arith, lt, c.touch.ensures.count)) none)
    ∙ c.touch.ensures.before
    ∙ ap (before c.self.inside.pages) c.bytes-bytes.ensures
    ∙ ap (λ (o : Opened). o.base) c.self.view_is

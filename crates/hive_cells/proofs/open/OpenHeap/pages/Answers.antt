use Rattle.std.proofs.Common.{length, subst, arith}
use Rattle.hive_model.specs.Bins.{bins_size, spelled}
use Rattle.hive_cells.specs.Opened.{Opened}
use Rattle.cell_tables.specs.saved_pages.Overlay.{IsCovered}
use Rattle.cell_tables.proofs.CoveredLemmas.{covered_more}
use Rattle.hive_cells.proofs.KeptLemmas.{lengths}
use Rattle.hive_cells.proofs.open.OpenHeap.pages.Goals as goal

pub returns-clause-covered : goal.returns-clause-covered
returns-clause-covered c =
    let l = lengths c.self.inside.cells c.opens.ensures in
    subst (λ (o : Opened). IsCovered c.self.inside.pages (length (spelled 0 o.bins))) c.self.view_is
    (covered_more c.self.inside.pages (bins_size c.self.inside.cells) (length (spelled 0 c.self.inside.cells))
    c.self.invariant.1 (omega (arith, l.long)))

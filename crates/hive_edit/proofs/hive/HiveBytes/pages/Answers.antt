use Rattle.std.proofs.Common.{◌≡◌, length, subst}
use Rattle.hive_model.specs.Bins.{spelled}
use Rattle.cell_tables.specs.saved_pages.Overlay.{before, IsCovered}
use Rattle.hive_edit.specs.Hive.{HiveCells}
use Rattle.hive_edit.proofs.hive.HiveBytes.pages.Goals as goal

pub returns-clause-base : goal.returns-clause-base
returns-clause-base c =
    subst (λ (h : HiveCells). before c.pages.result.now (spelled 0 h.bins) ≡ h.base) c.self.view_is c.pages.ensures.base

pub returns-clause-covered : goal.returns-clause-covered
returns-clause-covered c =
    subst (λ (h : HiveCells). IsCovered c.pages.result.now (length (spelled 0 h.bins))) c.self.view_is
    c.pages.ensures.covered

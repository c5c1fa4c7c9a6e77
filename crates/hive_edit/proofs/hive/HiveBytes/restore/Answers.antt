use Rattle.std.proofs.Common.{◌≡◌, ◌≤◌, List, length, sym, ap, subst, ◌∙◌}
use Rattle.hive_model.specs.Bins.{Bin, bins_size, IsBins}
use Rattle.hive_edit.specs.Hive.{HiveCells, hive_of, IsHive}
use Rattle.hive_edit.proofs.SettledLemmas.{same_bins}
use Rattle.hive_edit.proofs.hive.HiveBytes.restore.Goals as goal
use Rattle.hive_edit.proofs.hive.HiveBytes.restore.Goals.{After-restore}

-- the bins are those that there were
same : (c : After-restore) → c.restore.new.self.bins ≡ c.requires.was.bins
same c =
    same_bins c.self.inside.cells.base c.restore.new.self.bins c.requires.was.bins c.restore.ensures.bins
    (subst (λ (h : HiveCells). IsBins h.base c.requires.was.bins) (sym c.self.view_is) c.requires.was.is)

pub restore-requires-clause-long : goal.restore-requires-clause-long
restore-requires-clause-long c =
    subst (λ (h : HiveCells). length h.base ≤ bins_size h.bins) (sym c.self.view_is) c.requires.long

pub restore-requires-clause-bins : goal.restore-requires-clause-bins
restore-requires-clause-bins c = (
  c.requires.was.bins,
  subst (λ (h : HiveCells). IsBins h.base c.requires.was.bins) (sym c.self.view_is) c.requires.was.is,
)

pub invariant_of-self : goal.invariant_of-self
invariant_of-self c =
    subst (λ (bins : List Bin). IsHive bins c.args.root c.args.version c.args.bulk)
    (sym (same (goal.at.invariant_of-self c).After-restore)) c.requires.was.hive

pub returns : goal.returns
returns c = λ was.
    let bins = same (goal.at.returns c).After-restore
    ∙ same_bins c.args.self.now.base c.requires.was.bins was.bins c.requires.was.is was.is in
    let base = c.restore.ensures.base ∙ ap (λ (h : HiveCells). h.base) c.self.view_is ∙ was.is.1 in
    (λ k. hive_of (record { bins = bins k; base = base k }) c.args.root c.args.version)

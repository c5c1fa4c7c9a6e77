use Rattle.std.proofs.Common.{List, length, sym, ap, subst, ◌∙◌}
use Rattle.hive_model.specs.Bins.{Bin}
use Rattle.cell_tables.specs.saved_pages.Overlay.{before, IsCovered}
use Rattle.hive_edit.specs.Hive.{HiveCells, hive_of, settled_as, IsHive}
use Rattle.hive_edit.proofs.hive.HiveBytes.rejoin.Goals as goal

pub rejoin-requires : goal.rejoin-requires
rejoin-requires c = subst (λ (h : HiveCells). IsCovered c.args.pages (length h.base)) (sym c.self.view_is) c.requires

pub invariant_of-self : goal.invariant_of-self
invariant_of-self c =
    let i = c.self.inside in
    subst (λ (bins : List Bin). IsHive bins i.root i.version i.bulk) (sym c.rejoin.ensures.bins) c.self.invariant

pub returns : goal.returns
returns c =
    let i = c.self.inside in
    (λ k. hive_of (record { bins = c.rejoin.ensures.bins k; base = c.rejoin.ensures.base k }) i.root i.version)
    ∙ ap (λ (h : HiveCells). settled_as (before c.args.pages h.base) h) c.self.view_is

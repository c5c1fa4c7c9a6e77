use Rattle.std.proofs.Common.{List, sym, ap, subst, ◌∙◌}
use Rattle.hive_model.specs.Bins.{Bin, spelled}
use Rattle.hive_edit.specs.Hive.{HiveCells, hive_of, settled_as, IsHive}
use Rattle.hive_edit.proofs.hive.HiveBytes.settle.Goals as goal

pub invariant_of-self : goal.invariant_of-self
invariant_of-self c =
    let i = c.self.inside in
    subst (λ (bins : List Bin). IsHive bins i.root i.version i.bulk) (sym c.settle.ensures.bins) c.self.invariant

pub returns : goal.returns
returns c =
    let i = c.self.inside in
    (λ k. hive_of (record { bins = c.settle.ensures.bins k; base = c.settle.ensures.base k }) i.root i.version)
    ∙ ap (λ (h : HiveCells). settled_as (spelled 0 h.bins) h) c.self.view_is

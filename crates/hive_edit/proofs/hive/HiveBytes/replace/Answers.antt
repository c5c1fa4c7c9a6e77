use Rattle.std.proofs.Common.{List, sym, ap, subst, ◌∙◌}
use Rattle.hive_model.specs.Bins.{Bin}
use Rattle.hive_edit.specs.Hive.{HiveCells, hive_of, settled_as, IsHive}
use Rattle.hive_edit.proofs.hive.HiveBytes.replace.Goals as goal

pub invariant_of-self : goal.invariant_of-self
invariant_of-self c =
    let o = c.other.inside in
    subst (λ (bins : List Bin). IsHive bins o.root o.version o.bulk) (sym c.replace.ensures.bins) c.other.invariant

pub returns : goal.returns
returns c =
    let o = c.other.inside in
    let base = c.replace.ensures.base ∙ ap (λ (h : HiveCells). h.base) c.self.view_is in
    (λ k. hive_of (record { bins = c.replace.ensures.bins k; base = base k }) o.root o.version)
    ∙ ap (settled_as c.args.self.now.base) c.other.view_is

use Rattle.std.proofs.Common.{List, ap, sym, subst, ◌∙◌}
use Rattle.std.proofs.lemmas.Result.{err_from_is_err_and}
use Rattle.hive_model.specs.Bins.{Bin, spelled, IsHeap}
use Rattle.hive_cells.specs.Opened.{Opened}
use Rattle.hive_edit.specs.Hive.{HiveCells, hive_of, settled_as, IsHive}
use Rattle.hive_edit.proofs.hive.HiveBytes.hold.Goals as goal

pub invariant_of-self : goal.invariant_of-self
invariant_of-self c =
    let i = c.self.inside in
    subst (λ (bins : List Bin). IsHive bins i.root i.version i.bulk) (sym c.hold.ensures.bins) c.self.invariant

pub returns-in_err-pages-clause-refused : goal.returns-in_err-pages-clause-refused
returns-in_err-pages-clause-refused c =
    let i = c.self.inside in
    let p = err_from_is_err_and c.from_residual.result c.from_residual.ensures.1 in
    rw p.1 (ap (λ (o : Opened). hive_of o i.root i.version) c.in_err-pages.ensures.refused ∙ c.self.view_is)

pub returns-clause-held : goal.returns-clause-held
returns-clause-held c =
    let i = c.self.inside in
    (λ k. hive_of (record { bins = c.hold.ensures.bins k; base = c.in_ok-pages.ensures.base k }) i.root i.version)
    ∙ ap (λ (h : HiveCells). settled_as (spelled 0 h.bins) h) c.self.view_is

pub returns-clause-settled : goal.returns-clause-settled
returns-clause-settled c = (
  subst IsHeap (sym c.hold.ensures.bins) c.bytes-bytes.ensures.sound,
  c.in_ok-pages.ensures.base ∙ ap (spelled 0) (sym c.hold.ensures.bins),
)

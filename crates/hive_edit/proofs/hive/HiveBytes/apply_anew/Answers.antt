use Rattle.std.proofs.Common.{◌≡◌, map, Ok, sym, ap, subst, ◌∙◌}
use Rattle.hive_model.specs.Edit.{edited}
use Rattle.reg_tree.specs.Makes.{step_of}
use Rattle.hive_edit.specs.Edits.{IsPackedAnew}
use Rattle.hive_edit.specs.Hive.{HiveCells}
use Rattle.hive_edit.proofs.hive.HiveBytes.apply_anew.Goals as goal

pub returns-clause-made : goal.returns-clause-made
returns-clause-made c =
    subst (λ (h : HiveCells). edited c.args.self.now.version c.args.self.now.tree (map step_of c.args.steps) ≡ Ok h.tree)
    (sym c.replace.ensures) c.in_ok-after.ensures.made

pub returns-clause-version : goal.returns-clause-version
returns-clause-version c = ap (λ (h : HiveCells). h.version) c.replace.ensures ∙ c.in_ok-after.ensures.version

pub returns-clause-anew : goal.returns-clause-anew
returns-clause-anew c =
    let a = c.in_ok-after.ensures.anew in
    subst IsPackedAnew (sym c.replace.ensures) (record { bins = a.bins; root = a.root; parents = a.parents })

pub returns-clause-base : goal.returns-clause-base
returns-clause-base c = ap (λ (h : HiveCells). h.base) c.replace.ensures

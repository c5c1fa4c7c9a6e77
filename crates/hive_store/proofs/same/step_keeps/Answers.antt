use Rattle.std.proofs.Common.{◌≡◌, ◌∷◌, [], true, false, ap, refl, ◌∙◌}
use Rattle.std.specs.Prelude.{◌↔◌}
use Rattle.reg_tree.specs.declared.steps.TreeStep.{TreeStep}
use Rattle.reg_tree.specs.Makes.{step_of}
use Rattle.hive_store.specs.Same.{Keep}
use Rattle.hive_store.proofs.KeepLemmas.{may_keep, step_changes}
use Rattle.hive_store.proofs.same.step_keeps.Goals as goal
use Rattle.hive_store.proofs.same.step_keeps.Goals.{Start}

-- a step of a kind that always gives another tree
changes : (c : Start) (step : TreeStep) → c.args.step.now ≡ step → may_keep (step_of step) ≡ false
    → ((false ≡ true) ↔ Keep c.args.cells.now.version c.args.cells.now.tree (step_of c.args.step.now ∷ []))
changes c step is may =
    step_changes c.args.cells.now.version c.args.cells.now.tree (step_of c.args.step.now)
    (ap (λ (s : TreeStep). may_keep (step_of s)) is ∙ may)

pub returns-in-DeleteValue : goal.returns-in-DeleteValue
returns-in-DeleteValue c = changes (goal.at.returns-in-DeleteValue c).Start _ c.in-DeleteValue.is refl

pub returns-in-DeleteKey : goal.returns-in-DeleteKey
returns-in-DeleteKey c = changes (goal.at.returns-in-DeleteKey c).Start _ c.in-DeleteKey.is refl

pub returns-in-CopyChild : goal.returns-in-CopyChild
returns-in-CopyChild c = changes (goal.at.returns-in-CopyChild c).Start _ c.in-CopyChild.is refl

pub returns-in-AddChild : goal.returns-in-AddChild
returns-in-AddChild c = changes (goal.at.returns-in-AddChild c).Start _ c.in-AddChild.is refl

use Rattle.std.proofs.Common.{◌-◌, List, map, length, take, drop, ap, ◌∙◌}
use Rattle.hive_model.specs.Edit.{edited}
use Rattle.reg_tree.specs.declared.steps.TreeStep.{TreeStep}
use Rattle.reg_tree.specs.Makes.{step_of}
use Rattle.reg_tree.proofs.Outcomes.{uncons}
use Rattle.hive_store.proofs.LastLemmas.{first_kept}
use Rattle.hive_store.proofs.same.after_kept.Goals as goal

pub steps-preserved : goal.steps-preserved
steps-preserved c =
    let h = c.args.cells.now in
    let rest = c.steps.rest.now in
    c.steps.invariant
    ∙ ap (λ (l : List TreeStep). edited h.version h.tree (map step_of l))
    (uncons rest c.step-item.result c.in-len1-up.len_at_least c.step-item.is)
    ∙ first_kept h.version h.tree (step_of c.step-item.result) (map step_of (take (length rest - 1) (drop 1 rest)))
    (c.in_ok-step_keeps.ensures.0 c.if-not-branch.false)

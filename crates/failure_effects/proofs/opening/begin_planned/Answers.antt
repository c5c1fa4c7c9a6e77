use Rattle.std.proofs.Common.{sym, ap, ◌∙◌}
use Rattle.start_model.specs.Sets.{SetPlan}
use Rattle.failure_effects.proofs.OpeningLemmas.{planned_none, planned_some}
use Rattle.failure_effects.proofs.opening.begin_planned.Goals as goal

pub returns-then-is_empty-clause-opening : goal.returns-then-is_empty-clause-opening
returns-then-is_empty-clause-opening c =
    planned_none c.begun.result c.args.on_good c.args.plan.chosen c.plan.inside.chosen c.args.version c.args.root
    c.plan.inside.steps c.args.plan.steps c.begun.ensures.opening (ap (λ (p : SetPlan). p.chosen) c.plan.view_is)
    (sym (ap (λ (p : SetPlan). p.steps) c.plan.view_is)) (sym c.is_empty.ensures ∙ c.if-is_empty.true)

pub returns-clause-opening : goal.returns-clause-opening
returns-clause-opening c =
    planned_some c.begin_stepped.result c.args.on_good c.args.plan.chosen c.plan.inside.chosen c.args.version c.args.root
    c.plan.inside.steps c.args.plan.steps c.begin_stepped.ensures.opening (ap (λ (p : SetPlan). p.chosen) c.plan.view_is)
    (sym (ap (λ (p : SetPlan). p.steps) c.plan.view_is)) (sym c.is_empty.ensures ∙ c.if-is_empty.false)

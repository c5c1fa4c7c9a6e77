use Rattle.std.proofs.Common.{sym, ap, ◌∙◌, Result}
use Rattle.reg_tree.proofs.Outcomes.{on_ok}
use Rattle.start_model.specs.Sets.{SetPlan, SetStop, save_plan_of, planned}
use Rattle.start_model.specs.Act.{done}
use Rattle.start_model.specs.Commit.{saved_by}
use Rattle.quiet_run.specs.Play.{state_in}
use Rattle.quiet_run.specs.Watch.{watch}
use Rattle.quiet_run.proofs.saving.save.Goals as goal

pub returns-in-Ok-clause-watched : goal.returns-in-Ok-clause-watched
returns-in-Ok-clause-watched c =
    on_ok c.save_by.result _ _
    (λ h s on. h s c.args.clone on
    ∙ ap (λ (r : Result SetPlan SetStop). watch (saved_by s c.args.clone (state_in c.args.play.now) done
    (planned c.args.play.now.version c.args.play.now.live r)) c.args.play.now.last)
    (sym c.in-Ok.ensures.plans
    ∙ (λ i. save_plan_of (c.select_numbers-numbers.ensures i) (c.sets_in-sets.ensures i) c.args.clone)))
    c.save_by.ensures.watched

pub returns-in-Err-clause-watched : goal.returns-in-Err-clause-watched
returns-in-Err-clause-watched c =
    on_ok c.refuse.result _ _
    (λ h s on. h s c.args.clone (save_plan_of c.select_numbers-numbers.result c.sets_in-sets.result c.args.clone) on c.in-Err.ensures.plans
    ∙ ap (λ (r : Result SetPlan SetStop). watch (saved_by s c.args.clone (state_in c.args.play.now) done
    (planned c.args.play.now.version c.args.play.now.live r)) c.args.play.now.last)
    (λ i. save_plan_of (c.select_numbers-numbers.ensures i) (c.sets_in-sets.ensures i) c.args.clone))
    c.refuse.ensures.watched

use Rattle.std.proofs.Common.{sym, ◌∙◌}
use Rattle.reg_tree.proofs.Outcomes.{on_ok}
use Rattle.start_model.specs.Sets.{begin_plan_of, planned}
use Rattle.start_model.specs.Boot.{begin_by}
use Rattle.quiet_run.specs.Play.{state_in}
use Rattle.quiet_run.specs.Watch.{watch}
use Rattle.quiet_run.proofs.SetLemmas.{chosen_is_number}
use Rattle.quiet_run.proofs.beginning.take_set.Goals as goal

pub begin_planned-requires-clause-number : goal.begin_planned-requires-clause-number
begin_planned-requires-clause-number c =
    chosen_is_number c.args.play.now.live c.args.on_good c.in-Ok.plan
    ((λ i. begin_plan_of (sym c.select_numbers-numbers.ensures i) (sym c.sets_in-sets.ensures i) c.args.on_good) ∙ c.in-Ok.ensures.plans)

pub returns-in-Err-clause-watched : goal.returns-in-Err-clause-watched
returns-in-Err-clause-watched c =
    on_ok c.end_unset.result _ _
    (λ h. h (begin_plan_of c.select_numbers-numbers.result c.sets_in-sets.result c.args.on_good) c.in-Err.ensures.plans
    ∙ (λ i. watch (begin_by c.args.on_good (state_in c.args.play.now) (planned c.args.play.now.version c.args.play.now.live
    (begin_plan_of (c.select_numbers-numbers.ensures i) (c.sets_in-sets.ensures i) c.args.on_good))) c.args.play.now.last))
    c.end_unset.ensures.watched

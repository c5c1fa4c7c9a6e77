use Rattle.std.proofs.Common.{Result, ap, sym, subst, ◌∙◌}
use Rattle.select_keys.specs.Plans.{IsStopped}
use Rattle.select_keys.specs.declared.stop.SelectStop.{SelectStop}
use Rattle.start_model.specs.Sets.{SetPlan, SetStop, NoControlSet, NoLastKnownGood, NoFreeNumber, planned}
use Rattle.start_model.specs.Act.{done}
use Rattle.start_model.specs.Commit.{saved_by}
use Rattle.quiet_run.specs.Play.{state_in}
use Rattle.quiet_run.specs.Watch.{watch}
use Rattle.quiet_run.proofs.saving.refuse.Goals as goal

pub returns-in-NoControlSet-clause-watched : goal.returns-in-NoControlSet-clause-watched
returns-in-NoControlSet-clause-watched c = λ s clone r on is.
    c.unsaved.ensures.watched s clone NoControlSet on
    ∙ ap (λ (x : Result SetPlan SetStop). watch (saved_by s clone (state_in c.args.play.now) done
    (planned c.args.play.now.version c.args.play.now.live x)) c.args.play.now.last)
    (sym (subst (λ (x : SelectStop). IsStopped r x) c.in-NoControlSet.is is))

pub returns-in-NoLastKnownGood-clause-watched : goal.returns-in-NoLastKnownGood-clause-watched
returns-in-NoLastKnownGood-clause-watched c = λ s clone r on is.
    c.unsaved-in-NoLastKnownGood.ensures.watched s clone NoLastKnownGood on
    ∙ ap (λ (x : Result SetPlan SetStop). watch (saved_by s clone (state_in c.args.play.now) done
    (planned c.args.play.now.version c.args.play.now.live x)) c.args.play.now.last)
    (sym (subst (λ (x : SelectStop). IsStopped r x) c.in-NoLastKnownGood.is is))

pub returns-in-NoFreeNumber-clause-watched : goal.returns-in-NoFreeNumber-clause-watched
returns-in-NoFreeNumber-clause-watched c = λ s clone r on is.
    c.unsaved-in-NoFreeNumber.ensures.watched s clone NoFreeNumber on
    ∙ ap (λ (x : Result SetPlan SetStop). watch (saved_by s clone (state_in c.args.play.now) done
    (planned c.args.play.now.version c.args.play.now.live x)) c.args.play.now.last)
    (sym (subst (λ (x : SelectStop). IsStopped r x) c.in-NoFreeNumber.is is))

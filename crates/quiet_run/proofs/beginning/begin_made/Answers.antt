use Rattle.std.proofs.Common.{◌∙◌, ap}
use Rattle.reg_tree.proofs.Outcomes.{on_ok}
use Rattle.start_model.specs.Act.{Act}
use Rattle.quiet_run.specs.Watch.{watch}
use Rattle.quiet_run.proofs.CaseLemmas.{when_true, when_false}
use Rattle.quiet_run.proofs.beginning.begin_made.Goals as goal

pub returns-then-changed-clause-watched : goal.returns-then-changed-clause-watched
returns-then-changed-clause-watched c =
    on_ok c.begin_committed.result _ _
    (λ h numbers. h numbers
    ∙ ap (λ (a : Act). watch a c.args.play.now.last) (when_true c.args.changed _ _ c.if-changed.true))
    c.begin_committed.ensures.watched

pub returns-clause-watched : goal.returns-clause-watched
returns-clause-watched c =
    on_ok c.begin_on.result _ _
    (λ h numbers. h numbers
    ∙ ap (λ (a : Act). watch a c.args.play.now.last) (when_false c.args.changed _ _ c.if-changed.false))
    c.begin_on.ensures.watched

use Rattle.std.proofs.Common.{◌∙◌}
use Rattle.reg_tree.proofs.Outcomes.{on_ok}
use Rattle.start_model.specs.Boot.{begin_start}
use Rattle.quiet_run.specs.Watch.{watch}
use Rattle.quiet_run.proofs.beginning.begin_committed.Goals as goal

pub returns-clause-watched : goal.returns-clause-watched
returns-clause-watched c =
    on_ok c.begin_on.result _ _
    (λ h numbers. h numbers
    ∙ (λ i. watch (begin_start c.args.number c.args.on_good numbers (c.in_ok-commit.ensures.state i)) (c.in_ok-commit.ensures.last i)))
    c.begin_on.ensures.watched

use Rattle.reg_tree.proofs.Outcomes.{on_ok}
use Rattle.quiet_run.specs.Play.{state_in, watched_in}
use Rattle.quiet_run.proofs.SaveLemmas.{logged_on}
use Rattle.quiet_run.proofs.saving.logon.Goals as goal

pub returns-clause-watched : goal.returns-clause-watched
returns-clause-watched c =
    on_ok c.save_where_due.result _ _
    (λ h s on. logged_on (state_in c.args.play.now) s c.args.play.now.last (watched_in c.save_where_due.new.play) c.log_on.new.self on
    c.log_on.ensures h)
    c.save_where_due.ensures.watched

use Rattle.reg_tree.proofs.Outcomes.{on_ok}
use Rattle.quiet_run.specs.Play.{state_in, watched_in}
use Rattle.quiet_run.proofs.SaveLemmas.{due}
use Rattle.quiet_run.proofs.saving.save_where_due.Goals as goal

pub returns-in-Some-clause-watched : goal.returns-in-Some-clause-watched
returns-in-Some-clause-watched c =
    on_ok c.save.result _ _
    (λ h s on. due (state_in c.args.play.now) s c.args.play.now.last (watched_in c.save.new.play) c.save_due.result c.in-Some.clone
    c.take_clone.new.self on c.save_due.ensures c.if-not-save_due.false c.in-Some.ensures.clone c.in-Some.ensures.taken h)
    c.save.ensures.watched

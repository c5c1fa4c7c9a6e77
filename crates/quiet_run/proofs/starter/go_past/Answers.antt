use Rattle.reg_tree.proofs.Outcomes.{on_ok}
use Rattle.quiet_run.specs.Play.{state_in, watched_in}
use Rattle.quiet_run.proofs.StepLemmas.{gone_past}
use Rattle.quiet_run.proofs.starter.go_past.Goals as goal

pub returns-clause-watched : goal.returns-clause-watched
returns-clause-watched c =
    on_ok c.save_where_due.result _ _
    (λ h s on. gone_past (state_in c.args.play.now) s c.next_phase.new.machine c.args.play.now.last
    (watched_in c.save_where_due.new.play) on c.in_ok-next_phase.ensures.next h)
    c.save_where_due.ensures.watched

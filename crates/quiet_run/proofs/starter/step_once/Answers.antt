use Rattle.std.proofs.Common.{refl, sym, ◌∙◌}
use Rattle.reg_tree.proofs.Outcomes.{on_ok}
use Rattle.quiet_run.specs.Play.{state_in, watched_in}
use Rattle.quiet_run.proofs.TryLemmas.{step_ends, step_tries}
use Rattle.quiet_run.proofs.starter.step_once.Goals as goal

pub returns-then-at_phase_end-clause-watched : goal.returns-then-at_phase_end-clause-watched
returns-then-at_phase_end-clause-watched c =
    on_ok c.change_phase.result _ _
    (λ h. step_ends (state_in c.args.play.now) c.args.play.now.machine.start c.args.play.now.last (watched_in c.change_phase.new.play)
    refl c.requires.under_way (sym c.at_phase_end.ensures ∙ c.if-at_phase_end.true) h)
    c.change_phase.ensures.watched

pub returns-clause-watched : goal.returns-clause-watched
returns-clause-watched c =
    on_ok c.try_next.result _ _
    (λ h. step_tries (state_in c.args.play.now) c.args.play.now.machine.start c.args.play.now.last (watched_in c.try_next.new.play)
    c.requires.under_way h)
    c.try_next.ensures.watched

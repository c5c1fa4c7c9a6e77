use Rattle.std.proofs.Common.{ℕ, List, length, ◌==◌, sym, ap, ◌∙◌}
use Rattle.reg_tree.proofs.Outcomes.{on_ok}
use Rattle.quiet_run.specs.Play.{state_in, watched_in}
use Rattle.quiet_run.proofs.CaseLemmas.{missing_of, missing_none, some}
use Rattle.quiet_run.proofs.StepLemmas.{passed, not_passed}
use Rattle.quiet_run.proofs.starter.change_phase.Goals as goal

pub returns-then-is_empty-clause-watched : goal.returns-then-is_empty-clause-watched
returns-then-is_empty-clause-watched c =
    on_ok c.go_past.result _ _
    (λ h s on. passed s (state_in c.args.play.now) c.args.play.now.last (watched_in c.go_past.new.play)
    (missing_none c.in_ok-missing.missing c.args.play.now.machine.vital c.args.play.now.machine.start s c.in_ok-missing.ensures on
    (sym c.is_empty.ensures ∙ c.if-is_empty.true)) (h s on))
    c.go_past.ensures.watched

pub returns-clause-watched : goal.returns-clause-watched
returns-clause-watched c =
    on_ok c.stop_without.result _ _
    (λ h s on. not_passed s (state_in c.args.play.now) c.args.play.now.last (watched_in c.stop_without.new.play) c.as_slice.result.now
    (c.as_slice.ensures
    ∙ missing_of c.in_ok-missing.missing c.args.play.now.machine.vital c.args.play.now.machine.start s c.in_ok-missing.ensures on)
    (some _ (ap (λ (ns : List (List ℕ)). length ns == 0) c.as_slice.ensures ∙ sym c.is_empty.ensures ∙ c.if-is_empty.false)) h)
    c.stop_without.ensures.watched

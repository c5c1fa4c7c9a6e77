use Rattle.std.proofs.Common.{◌≡◌, ℕ, suc, ◌-◌, sym, ap, ◌∙◌, arith}
use Rattle.std.proofs.lemmas.Bool.Decides.{nat_tests}
use Rattle.quiet_run.specs.Play.{watched_in}
use Rattle.quiet_run.specs.Watch.{steps_of}
use Rattle.quiet_run.proofs.TryLemmas.{all_still, none_left, one_taken}
use Rattle.quiet_run.proofs.starter.take_steps.Goals as goal

pub steps-preserved : goal.steps-preserved
steps-preserved c =
    let count : c.steps.left ≡ suc (c.steps.left - 1) = grind (arith, nat_tests, c.steps-test.true) in (
      one_taken c.steps.left (c.steps.left - 1) (watched_in c.steps.play) (watched_in c.step.new.play) count c.in_ok-step.ensures.watched
          ∙ c.steps.invariant.0,
      c.in_ok-step.ensures.sound,
    )

pub returns-else-is_under_way-clause-watched : goal.returns-else-is_under_way-clause-watched
returns-else-is_under_way-clause-watched c =
    all_still c.steps.left (watched_in c.steps.play) (sym c.is_under_way.ensures ∙ c.if-is_under_way.false) ∙ c.steps.invariant.0

pub returns-after-steps-clause-watched : goal.returns-after-steps-clause-watched
returns-after-steps-clause-watched c =
    let none : c.steps.left ≡ 0 = grind (arith, nat_tests, c.steps-test.false) in
    none_left (watched_in c.steps.play) ∙ ap (λ (n : ℕ). steps_of n (watched_in c.steps.play)) (sym none) ∙ c.steps.invariant.0

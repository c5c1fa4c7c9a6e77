use Rattle.std.proofs.Common.{◌≡◌, true, arith, rules, sym, ◌∙◌}
use Rattle.boot_machine.specs.boot_machine.Steps.{is_at_end}
use Rattle.failure_effects.proofs.PlayLemmas.{one_tried, all_tried}
use Rattle.failure_effects.proofs.course.attempt_all.Goals as goal

pub attempt-preserved : goal.attempt-preserved
attempt-preserved c =
    one_tried c.args.usable c.attempt.course c.attempt_next.new.course c.in_ok-attempt_next.ensures.next ∙ c.attempt.invariant

pub returns : goal.returns
returns c =
    let over : is_at_end c.attempt.course.machine.start ≡ true = first_of (cc, search rules, grind arith) in
    sym (all_tried c.args.usable c.attempt.course over) ∙ c.attempt.invariant

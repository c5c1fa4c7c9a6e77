use Rattle.std.proofs.Common.{◌≡◌, true, length, refl, arith, rules}
use Rattle.boot_machine.specs.boot_machine.Steps.{is_at_end}
use Rattle.safe_boot.specs.Played.{attempts_of}
use Rattle.safe_boot.proofs.PlayLemmas.{one_tried, all_tried}
use Rattle.safe_boot.proofs.playing.attempt_all.Goals as goal

pub attempt-init : goal.attempt-init
attempt-init c = λ course at. record { course = course; at = at; rest = refl }

pub attempt-preserved : goal.attempt-preserved
attempt-preserved c = λ course at.
    one_tried (attempts_of (length course.start.waiting) course)
    c.attempt.machine c.attempt_next.new.machine c.attempt.lines c.attempt_next.new.lines
    c.in_ok-attempt_next.ensures.next
    (c.attempt.invariant course at)

pub returns : goal.returns
returns c =
    let over : is_at_end c.attempt.machine.start ≡ true = first_of (cc, search rules, grind arith) in λ course at.
    all_tried (attempts_of (length course.start.waiting) course) c.attempt.machine c.attempt.lines
    (c.attempt.invariant course at) over

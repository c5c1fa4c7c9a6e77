use Rattle.std.proofs.Common.{◌≡◌}
use Rattle.failure_effects.specs.Played.{attempts_of, waiting_count}
use Rattle.failure_effects.proofs.course.attempt_all.Given as goal

abbrev pub invariant-attempt : goal.invariant-attempt
invariant-attempt l =
    attempts_of (waiting_count l.course.machine) l.usable l.course
    ≡ attempts_of (waiting_count l.initial.course.machine) l.usable l.initial.course

abbrev pub decreases-attempt : goal.decreases-attempt
decreases-attempt l = waiting_count l.course.machine

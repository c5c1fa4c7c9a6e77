use Rattle.std.proofs.Common.{length}
use Rattle.safe_boot.specs.Played.{Course, attempts_of, IsAt, waiting_count}
use Rattle.safe_boot.proofs.PlayLemmas.{StillGives}
use Rattle.safe_boot.proofs.playing.attempt_all.Given as goal

abbrev pub invariant-attempt : goal.invariant-attempt
invariant-attempt l =
    (c : Course) → IsAt l.initial.machine l.initial.lines c
    → StillGives (attempts_of (length c.start.waiting) c) l.machine l.lines

abbrev pub decreases-attempt : goal.decreases-attempt
decreases-attempt l = waiting_count l.machine

use Rattle.std.proofs.Common.{◌≡◌, ◌++◌, length}
use Rattle.std.specs.Prelude.{count_by}
use Rattle.service_control.specs.Turns.{turns}
use Rattle.dependencies.specs.Attempts.{all_waiting}
use Rattle.service_control.proofs.turns.turns.Given as goal

abbrev pub invariant-turns : goal.invariant-turns
invariant-turns l =
    l.places ++ turns (count_by (λ b. b) l.waiting.waits) l.waiting
    ≡ turns (length l.fn.needs) (all_waiting l.fn.needs l.started)

abbrev pub decreases-turns : goal.decreases-turns
decreases-turns l = count_by (λ b. b) l.waiting.waits

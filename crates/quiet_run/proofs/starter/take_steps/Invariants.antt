use Rattle.std.proofs.Common.{◌≡◌}
use Rattle.quiet_run.specs.Play.{watched_in, IsSound}
use Rattle.quiet_run.specs.Watch.{steps_of}
use Rattle.quiet_run.proofs.starter.take_steps.Given as goal

abbrev pub invariant-steps : goal.invariant-steps
invariant-steps l = (steps_of l.left (watched_in l.play) ≡ steps_of l.most (watched_in l.initial.play)) × IsSound l.play

abbrev pub decreases-steps : goal.decreases-steps
decreases-steps l = l.left

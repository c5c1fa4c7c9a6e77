use Rattle.service_control.specs.Causes.{AreCauses}
use Rattle.service_control.proofs.causes.causes.Given as goal

abbrev pub invariant-loop-place : goal.invariant-loop-place
invariant-loop-place l = AreCauses l.running l.place l.needs l.owners.items

use Rattle.wait_cycles.specs.Classes.{AreMembers}
use Rattle.wait_cycles.proofs.finding.members.Given as goal

abbrev pub invariant-loop-place : goal.invariant-loop-place
invariant-loop-place l = AreMembers l.classes l.place l.members.items

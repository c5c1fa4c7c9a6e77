use Rattle.std.proofs.Common.{◌≡◌}
use Rattle.why_answer.specs.why_pulled.Layers.{next_of, layered}
use Rattle.why_answer.proofs.why_pulled.layers.look_on.Given as goal

abbrev pub invariant-place : goal.invariant-place
invariant-place l = layered (next_of l.view) l.left l.at l.found ≡ layered (next_of l.view) l.most 0 l.initial.found

abbrev pub decreases-place : goal.decreases-place
decreases-place l = l.left

use Rattle.std.proofs.Common.{◌≡◌, length, find}
use Rattle.why_answer.specs.why_pulled.Pulled.{is_before}
use Rattle.why_answer.proofs.why_pulled.pulled.first_before.Given as goal

abbrev pub invariant-place : goal.invariant-place
invariant-place l = find (is_before l.found l.layer) l.rest ≡ find (is_before l.found l.layer) l.places

abbrev pub decreases-place : goal.decreases-place
decreases-place l = length l.rest

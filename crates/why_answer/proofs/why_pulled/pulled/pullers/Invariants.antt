use Rattle.std.proofs.Common.{◌≡◌, ◌++◌}
use Rattle.why_answer.specs.why_pulled.Pulled.{puller_of, pullers}
use Rattle.why_answer.proofs.why_pulled.pulled.pullers.Given as goal

abbrev pub invariant-place : goal.invariant-place
invariant-place l =
    l.out ++ pullers (puller_of l.view l.namers l.found) l.left l.at ≡ pullers (puller_of l.view l.namers l.found) l.most l.place

abbrev pub decreases-place : goal.decreases-place
decreases-place l = l.left

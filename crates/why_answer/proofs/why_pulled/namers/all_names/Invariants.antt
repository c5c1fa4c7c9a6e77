use Rattle.std.proofs.Common.{◌≡◌, take}
use Rattle.std.specs.List.{flat_map}
use Rattle.why_answer.specs.why_pulled.Namers.{services_at}
use Rattle.why_answer.proofs.why_pulled.namers.all_names.Given as goal

abbrev pub invariant-loop-place : goal.invariant-loop-place
invariant-loop-place l = l.names ≡ flat_map (services_at l.plan) (take l.place-index l.places)

use Rattle.std.proofs.Common.{◌≡◌, take}
use Rattle.std.specs.List.{flat_map}
use Rattle.why_answer.specs.why_pulled.Namers.{owners_at}
use Rattle.why_answer.proofs.why_pulled.namers.all_owners.Given as goal

abbrev pub invariant-loop-place : goal.invariant-loop-place
invariant-loop-place l = l.out ≡ flat_map (owners_at l.plan) (take l.place-index l.places)

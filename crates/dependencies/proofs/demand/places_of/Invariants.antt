use Rattle.std.proofs.Common.{◌≡◌}
use Rattle.std.specs.Prelude.{filter}
use Rattle.std.specs.List.{range_with_len}
use Rattle.start_model.specs.Demand.{member}
use Rattle.dependencies.proofs.demand.places_of.Given as goal

abbrev pub invariant-loop-place : goal.invariant-loop-place
invariant-loop-place g l = l.places ≡ filter (member l.taken) (range_with_len 0 l.place)

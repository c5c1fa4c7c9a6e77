use Rattle.std.proofs.Common.{◌≡◌, take}
use Rattle.std.specs.Prelude.{slice_get}
use Rattle.std.specs.List.{filter_map}
use Rattle.graph_rule.proofs.parts.places_at.Given as goal

abbrev pub invariant-loop-place : goal.invariant-loop-place
invariant-loop-place l = l.out ≡ filter_map (slice_get l.places) (take l.place-index l.at)

use Rattle.std.proofs.Common.{◌≡◌, ◌++◌, take}
use Rattle.std.specs.List.{flat_map}
use Rattle.why_lacks.specs.why_cycle.Cycle.{place_line}
use Rattle.why_lacks.proofs.why_cycle.lines.push_places.Given as goal

abbrev pub invariant-loop-place : goal.invariant-loop-place
invariant-loop-place l = l.lines ≡ l.initial.lines ++ flat_map (place_line l.needs l.items.keys) (take l.place-index l.places)

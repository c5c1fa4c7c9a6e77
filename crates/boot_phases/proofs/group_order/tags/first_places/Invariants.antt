use Rattle.std.proofs.Common.{take}
use Rattle.boot_phases.specs.group_order.FirstPlaces.{HasFirstPlaces}
use Rattle.boot_phases.proofs.group_order.tags.first_places.Given as goal

abbrev pub invariant-loop-place : goal.invariant-loop-place
invariant-loop-place l = HasFirstPlaces l.places (take l.place l.tags)

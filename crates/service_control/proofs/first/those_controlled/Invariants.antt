use Rattle.std.proofs.Common.{◌≡◌, take}
use Rattle.std.specs.List.{filter_map}
use Rattle.service_control.specs.First.{controlled}
use Rattle.service_control.proofs.first.those_controlled.Given as goal

abbrev pub invariant-loop-place : goal.invariant-loop-place
invariant-loop-place l = l.needs ≡ filter_map controlled (take l.place l.table)

use Rattle.std.proofs.Common.{◌≡◌, ◌++◌, take}
use Rattle.std.specs.List.{flat_map}
use Rattle.service_check.specs.Vertices.{name_ids}
use Rattle.service_check.proofs.waits.put_names.Given as goal

abbrev pub invariant-loop-need : goal.invariant-loop-need
invariant-loop-need l = l.ids ≡ l.initial.ids ++ flat_map (name_ids l.table l.own) (take l.need-index l.needs)

use Rattle.std.proofs.Common.{◌≡◌, ◌++◌, take}
use Rattle.std.specs.List.{flat_map}
use Rattle.service_check.specs.Needs.{groups_upto}
use Rattle.service_check.specs.Vertices.{ids_from}
use Rattle.service_check.proofs.waits.put_groups.Given as goal

abbrev pub invariant-loop-need : goal.invariant-loop-need
invariant-loop-need l =
    l.ids ≡ l.initial.ids ++ flat_map (ids_from l.base (groups_upto l.own l.table)) (take l.need-index l.needs)

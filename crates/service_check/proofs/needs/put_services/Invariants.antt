use Rattle.std.proofs.Common.{◌≡◌, ◌++◌, take}
use Rattle.std.specs.List.{flat_map}
use Rattle.service_check.specs.Needs.{service_fault}
use Rattle.service_check.proofs.needs.put_services.Given as goal

abbrev pub invariant-loop-need : goal.invariant-loop-need
invariant-loop-need l = l.faults ≡ l.initial.faults ++ flat_map (service_fault l.table l.own) (take l.need-index l.needs)

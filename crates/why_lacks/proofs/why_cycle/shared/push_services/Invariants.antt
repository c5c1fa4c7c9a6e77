use Rattle.std.proofs.Common.{◌≡◌, ◌++◌, map, take}
use Rattle.why_lacks.specs.why_cycle.Shared.{service_need}
use Rattle.why_lacks.proofs.why_cycle.shared.push_services.Given as goal

abbrev pub invariant-loop-to : goal.invariant-loop-to
invariant-loop-to l = l.row ≡ l.initial.row ++ map (service_need l.items.keys l.groups) (take l.to-index l.leads)

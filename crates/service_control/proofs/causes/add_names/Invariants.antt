use Rattle.std.proofs.Common.{◌≡◌, ◌++◌, take, map}
use Rattle.service_control.specs.Causes.{by_name}
use Rattle.service_control.proofs.causes.add_names.Given as goal

abbrev pub invariant-loop-name : goal.invariant-loop-name
invariant-loop-name l = l.causes ≡ l.initial.causes ++ map (by_name l.need) (take l.name-index l.names)

use Rattle.std.proofs.Common.{◌≡◌, ◌++◌, map}
use Rattle.service_check.specs.Check.{about}
use Rattle.service_check.proofs.checking.put_faults.Given as goal

abbrev pub invariant-loop-fault : goal.invariant-loop-fault
invariant-loop-fault l = l.lines ≡ l.initial.lines ++ map (about l.key) l.yielded

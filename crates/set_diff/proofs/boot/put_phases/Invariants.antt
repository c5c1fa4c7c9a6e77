use Rattle.std.proofs.Common.{◌≡◌, ◌++◌, take}
use Rattle.std.specs.List.{flat_map}
use Rattle.set_diff.specs.Boots.{paired_phases}
use Rattle.set_diff.proofs.boot.put_phases.Given as goal

abbrev pub invariant-loop-attempt : goal.invariant-loop-attempt
invariant-loop-attempt l = l.lines ≡ l.initial.lines ++ flat_map (paired_phases l.others) (take l.attempt-index l.attempts)

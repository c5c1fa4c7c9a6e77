use Rattle.std.proofs.Common.{◌≡◌, ◌++◌, map, take}
use Rattle.failure_effects.specs.Played.{left}
use Rattle.failure_effects.proofs.course.push_unmet.Given as goal

abbrev pub invariant-loop-name : goal.invariant-loop-name
invariant-loop-name l = l.told ≡ l.initial.told ++ map left (take l.name-index l.names)

use Rattle.std.proofs.Common.{◌≡◌, ◌++◌, take}
use Rattle.failure_effects.specs.Lost.{lost_lines}
use Rattle.failure_effects.proofs.lost.push_lost.Given as goal

abbrev pub invariant-loop-name : goal.invariant-loop-name
invariant-loop-name l = l.lines ≡ l.initial.lines ++ lost_lines l.other (take l.name-index l.lost)

use Rattle.std.proofs.Common.{◌≡◌, ◌++◌, map, take}
use Rattle.failure_effects.specs.Leans.{leans_line}
use Rattle.failure_effects.proofs.leaning.push_near.Given as goal

abbrev pub invariant-loop-entry : goal.invariant-loop-entry
invariant-loop-entry l = l.lines ≡ l.initial.lines ++ map (leans_line l.states l.steps l.layer) (take l.entry-index l.near)

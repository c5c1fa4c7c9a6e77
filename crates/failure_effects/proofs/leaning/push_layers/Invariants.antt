use Rattle.std.proofs.Common.{◌≡◌, ◌+◌, ◌-◌, ◌++◌}
use Rattle.failure_effects.specs.Givers.{AreLeft, rest_of}
use Rattle.failure_effects.specs.Leans.{leans_from}
use Rattle.failure_effects.proofs.leaning.push_layers.Given as goal

abbrev pub invariant-loop-steps : goal.invariant-loop-steps
invariant-loop-steps l = record {
  said : l.lines ++ leans_from (l.count - l.steps) (l.steps + 1) l.states l.walk.layer (rest_of l.needers l.walk.left.rest.items)
      ≡ l.initial.lines ++ leans_from l.count 1 l.states l.initial.walk.layer (rest_of l.needers l.initial.walk.left.rest.items);
  left : AreLeft l.needers l.walk.left;
}

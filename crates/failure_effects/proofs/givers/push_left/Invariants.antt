use Rattle.std.proofs.Common.{◌≡◌, ◌++◌, filter, map, take}
use Rattle.start_model.specs.Demand.{member}
use Rattle.failure_effects.specs.Givers.{owner_at}
use Rattle.failure_effects.proofs.givers.push_left.Given as goal

abbrev pub invariant-loop-want : goal.invariant-loop-want
invariant-loop-want l = l.found.items ≡ l.initial.found.items ++ filter (member l.rest) (map (owner_at l.owners) (take l.want-index l.wants))

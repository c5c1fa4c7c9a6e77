use Rattle.std.proofs.Common.{◌≡◌, map, take}
use Rattle.dependencies.proofs.started.names_of.Given as goal

abbrev pub invariant-loop-label : goal.invariant-loop-label
invariant-loop-label l = l.names.items ≡ map (λ s. s.0) (take l.label-index l.labels)

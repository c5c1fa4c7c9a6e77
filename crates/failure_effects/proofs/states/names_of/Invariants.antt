use Rattle.std.proofs.Common.{◌≡◌, map, take}
use Rattle.failure_effects.specs.declared.told.Told.{Told}
use Rattle.failure_effects.proofs.states.names_of.Given as goal

abbrev pub invariant-loop-one : goal.invariant-loop-one
invariant-loop-one l = l.names ≡ map (λ (t : Told). t.name) (take l.one-index l.told)

use Rattle.std.proofs.Common.{◌≡◌, map, take}
use Rattle.start_model.specs.Entries.{Entry}
use Rattle.failure_effects.proofs.leaning.names_of.Given as goal

abbrev pub invariant-loop-entry : goal.invariant-loop-entry
invariant-loop-entry l = l.names ≡ map (λ (e : Entry). e.name) (take l.entry-index l.entries)

use Rattle.std.proofs.Common.{◌≡◌, map, not, take}
use Rattle.nt_bytes.specs.Folding.{folds_same}
use Rattle.start_model.specs.Entries.{Entry}
use Rattle.failure_effects.proofs.leaning.others.Given as goal

abbrev pub invariant-loop-entry : goal.invariant-loop-entry
invariant-loop-entry l = l.others.items ≡ map (λ (e : Entry). not (folds_same l.name e.name)) (take l.entry-index l.entries)

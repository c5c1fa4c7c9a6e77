use Rattle.std.proofs.Common.{◌≡◌, filter, take}
use Rattle.std.specs.List.{filter_map}
use Rattle.nt_bytes.specs.Folding.{folds_same}
use Rattle.start_model.specs.Entries.{Entry}
use Rattle.failure_effects.proofs.leaning.named_groups.Given as goal

abbrev pub invariant-loop-entry : goal.invariant-loop-entry
invariant-loop-entry l =
    l.names ≡ filter_map (λ (e : Entry). e.group) (filter (λ (e : Entry). folds_same l.name e.name) (take l.entry-index l.entries))

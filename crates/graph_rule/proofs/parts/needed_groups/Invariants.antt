use Rattle.std.proofs.Common.{◌≡◌, take}
use Rattle.std.specs.List.{flat_map}
use Rattle.start_model.specs.Entries.{Entry}
use Rattle.graph_rule.proofs.parts.needed_groups.Given as goal

abbrev pub invariant-loop-entry : goal.invariant-loop-entry
invariant-loop-entry l = l.names ≡ flat_map (λ (e : Entry). e.groups) (take l.entry-index l.entries)

use Rattle.std.proofs.Common.{◌≡◌, take}
use Rattle.std.specs.List.{filter_map}
use Rattle.start_model.specs.Entries.{Entry}
use Rattle.why_needs.proofs.why_needs.members.groups_of.Given as goal

abbrev pub invariant-loop-entry : goal.invariant-loop-entry
invariant-loop-entry l = l.names ≡ filter_map (λ (e : Entry). e.group) (take l.entry-index l.entries)

use Rattle.std.proofs.Common.{◌≡◌, take}
use Rattle.std.specs.List.{filter_map}
use Rattle.why_needs.specs.why_needs.Members.{grouped_name}
use Rattle.why_needs.proofs.why_needs.members.grouped_names.Given as goal

abbrev pub invariant-loop-entry : goal.invariant-loop-entry
invariant-loop-entry l = l.names ≡ filter_map grouped_name (take l.entry-index l.entries)

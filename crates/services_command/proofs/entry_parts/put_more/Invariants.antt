use Rattle.std.proofs.Common.{◌≡◌, ◌++◌, take}
use Rattle.std.specs.List.{flat_map}
use Rattle.line_parts.specs.Views.{all_seen}
use Rattle.services_command.specs.Lines.{next_parts}
use Rattle.services_command.proofs.entry_parts.put_more.Given as goal

abbrev pub invariant-loop-next : goal.invariant-loop-next
invariant-loop-next l = all_seen l.parts.items ≡ all_seen l.initial.parts.items ++ flat_map next_parts (take l.next-index l.overrides)

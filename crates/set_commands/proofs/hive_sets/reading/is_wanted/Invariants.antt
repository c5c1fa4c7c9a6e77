use Rattle.std.proofs.Common.{◌≡◌, false, take}
use Rattle.std.specs.List.{list_any}
use Rattle.set_commands.specs.hive_sets.Parts.{is_set}
use Rattle.set_commands.proofs.hive_sets.reading.is_wanted.Given as goal

abbrev pub invariant-loop-number : goal.invariant-loop-number
invariant-loop-number l = list_any (is_set l.name) (take l.number-index l.numbers) ≡ false

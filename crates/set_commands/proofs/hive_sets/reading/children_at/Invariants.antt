use Rattle.std.proofs.Common.{◌≡◌, take, map}
use Rattle.set_commands.specs.hive_sets.Reads.{child_at}
use Rattle.set_commands.proofs.hive_sets.reading.children_at.Given as goal

abbrev pub invariant-loop-name : goal.invariant-loop-name
invariant-loop-name l = l.keys ≡ map (child_at l.hive.tree l.numbers) (take l.name-index l.names)

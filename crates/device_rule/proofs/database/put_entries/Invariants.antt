use Rattle.std.proofs.Common.{◌≡◌, ◌++◌, take}
use Rattle.std.specs.List.{flat_map}
use Rattle.device_rule.specs.Database.{critical_line}
use Rattle.device_rule.proofs.database.put_entries.Given as goal

abbrev pub invariant-loop-key : goal.invariant-loop-key
invariant-loop-key l = l.lines ≡ l.initial.lines ++ flat_map (critical_line l.services l.of) (take l.key-index l.keys)

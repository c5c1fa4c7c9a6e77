use Rattle.std.proofs.Common.{◌≡◌, take}
use Rattle.std.specs.List.{filter_map}
use Rattle.graph_rule.specs.Entries.{entry_named}
use Rattle.graph_rule.proofs.entries.each_named.Given as goal

abbrev pub invariant-loop-name : goal.invariant-loop-name
invariant-loop-name l = l.out ≡ filter_map (entry_named l.run l.entries l.names) (take l.name-index l.firsts)

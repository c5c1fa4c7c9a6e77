use Rattle.std.proofs.Common.{◌≡◌, filter, take}
use Rattle.graph_rule.specs.Entries.{is_placed_at}
use Rattle.graph_rule.proofs.entries.placed_at.Given as goal

abbrev pub invariant-loop-name : goal.invariant-loop-name
invariant-loop-name l = l.out ≡ filter (is_placed_at l.run l.at) (take l.name-index l.names)

use Rattle.std.proofs.Common.{◌≡◌, map, take}
use Rattle.graph_rule.specs.Nodes.{entry_node}
use Rattle.graph_rule.proofs.nodes.entry_nodes.Given as goal

abbrev pub invariant-loop-entry : goal.invariant-loop-entry
invariant-loop-entry l = l.nodes ≡ map (entry_node l.run) (take l.entry-index l.entries)

use Rattle.std.proofs.Common.{◌≡◌, ◌++◌, map, take}
use Rattle.graph_rule.specs.Nodes.{missing_node}
use Rattle.graph_rule.proofs.whole.push_missing.Given as goal

abbrev pub invariant-loop-name : goal.invariant-loop-name
invariant-loop-name l = l.nodes ≡ l.initial.nodes ++ map missing_node (take l.name-index l.names)

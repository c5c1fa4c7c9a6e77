use Rattle.std.proofs.Common.{◌≡◌, ◌++◌}
use Rattle.graph_rule.proofs.whole.push_all.Given as goal

abbrev pub invariant-loop-node : goal.invariant-loop-node
invariant-loop-node l = l.nodes ≡ l.initial.nodes ++ l.yielded

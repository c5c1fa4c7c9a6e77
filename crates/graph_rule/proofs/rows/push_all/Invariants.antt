use Rattle.std.proofs.Common.{◌≡◌, ◌++◌, take}
use Rattle.graph_rule.proofs.rows.push_all.Given as goal

abbrev pub invariant-loop-vertex : goal.invariant-loop-vertex
invariant-loop-vertex l = l.out ≡ l.initial.out ++ take l.vertex-index l.vertices

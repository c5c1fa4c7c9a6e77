use Rattle.std.proofs.Common.{◌≡◌, ◌++◌, take}
use Rattle.std.specs.List.{flat_map}
use Rattle.graph_rule.specs.Shown.{edge_to}
use Rattle.graph_rule.proofs.numbers.push_row.Given as goal

abbrev pub invariant-loop-at : goal.invariant-loop-at
invariant-loop-at l = l.out ≡ l.initial.out ++ flat_map (edge_to l.numbers l.from l.of_group) (take l.at-index l.row)

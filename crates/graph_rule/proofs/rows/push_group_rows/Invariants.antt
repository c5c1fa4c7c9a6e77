use Rattle.std.proofs.Common.{◌≡◌, ◌++◌, map, take}
use Rattle.std.specs.Option.{option_copied}
use Rattle.graph_rule.specs.Rows.{group_row}
use Rattle.graph_rule.proofs.rows.push_group_rows.Given as goal

abbrev pub invariant-loop-group : goal.invariant-loop-group
invariant-loop-group l = l.rows ≡ l.initial.rows ++ map (group_row l.parts (option_copied l.of)) (take l.group-index l.group-items)

use Rattle.std.proofs.Common.{◌≡◌, ◌++◌, map, take}
use Rattle.graph_rule.specs.Rows.{entry_row}
use Rattle.graph_rule.proofs.rows.push_entry_rows.Given as goal

abbrev pub invariant-loop-entry : goal.invariant-loop-entry
invariant-loop-entry l = l.rows ≡ l.initial.rows ++ map (entry_row l.parts) (take l.entry-index l.entry-items)

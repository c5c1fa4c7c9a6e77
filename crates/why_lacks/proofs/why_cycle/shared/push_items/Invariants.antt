use Rattle.std.proofs.Common.{◌≡◌, ◌++◌, map, take}
use Rattle.why_lacks.specs.why_cycle.Shared.{item_row}
use Rattle.why_lacks.proofs.why_cycle.shared.push_items.Given as goal

abbrev pub invariant-loop-number : goal.invariant-loop-number
invariant-loop-number l = l.rows.items ≡ l.initial.rows.items ++ map (item_row l.needs l.items.keys l.pairs.keys l.ways) (take l.number-index l.items.keys)

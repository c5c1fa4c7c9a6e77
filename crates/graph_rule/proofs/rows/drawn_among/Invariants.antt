use Rattle.std.proofs.Common.{◌≡◌, filter, take}
use Rattle.std.specs.Option.{option_copied}
use Rattle.graph_rule.specs.Rows.{is_drawn}
use Rattle.graph_rule.proofs.rows.drawn_among.Given as goal

abbrev pub invariant-loop-at : goal.invariant-loop-at
invariant-loop-at l = l.row ≡ filter (is_drawn l.parts (option_copied l.of)) (take l.at-index l.members)

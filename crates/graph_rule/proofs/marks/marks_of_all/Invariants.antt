use Rattle.std.proofs.Common.{◌≡◌, map}
use Rattle.std.specs.List.{range_with_len}
use Rattle.graph_rule.specs.Shown.{is_shown_of_all}
use Rattle.graph_rule.proofs.marks.marks_of_all.Given as goal

abbrev pub invariant-loop-at : goal.invariant-loop-at
invariant-loop-at l = l.marks.items ≡ map (is_shown_of_all l.nodes l.rows) (range_with_len 0 l.at)

use Rattle.std.proofs.Common.{◌≡◌, ◌+◌, ◌≤◌, ◌++◌, length}
use Rattle.graph_rule.specs.Shown.{numbers_from}
use Rattle.graph_rule.proofs.numbers.numbers.Given as goal

abbrev pub invariant-mark : goal.invariant-mark
invariant-mark l = (l.numbers.items ++ numbers_from l.next l.rest ≡ numbers_from 1 l.marks) × (l.next + length l.rest ≤ 1 + length l.marks)

abbrev pub decreases-mark : goal.decreases-mark
decreases-mark l = length l.rest

use Rattle.std.proofs.Common.{◌≡◌, length}
use Rattle.set_diff.specs.Shown.{numbers_same}
use Rattle.set_diff.proofs.shown.numbers_same.Given as goal

abbrev pub invariant-numbers : goal.invariant-numbers
invariant-numbers l = numbers_same l.xs l.ys ≡ numbers_same l.first l.second

abbrev pub decreases-numbers : goal.decreases-numbers
decreases-numbers l = length l.xs

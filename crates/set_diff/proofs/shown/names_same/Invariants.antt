use Rattle.std.proofs.Common.{◌≡◌, length}
use Rattle.set_diff.specs.Shown.{names_same}
use Rattle.set_diff.proofs.shown.names_same.Given as goal

abbrev pub invariant-names : goal.invariant-names
invariant-names l = names_same l.xs l.ys ≡ names_same l.first l.second

abbrev pub decreases-names : goal.decreases-names
decreases-names l = length l.xs

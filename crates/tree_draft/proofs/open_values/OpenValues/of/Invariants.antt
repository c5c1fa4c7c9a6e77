use Rattle.std.proofs.Common.{◌≡◌, ◌++◌, length}
use Rattle.std.specs.Vec.Iter.{into_iter_items}
use Rattle.tree_draft.proofs.open_values.OpenValues.of.Given as goal

abbrev pub invariant-values : goal.invariant-values
invariant-values l = l.open ++ into_iter_items l.rest ≡ l.fn.values

abbrev pub decreases-values : goal.decreases-values
decreases-values l = length (into_iter_items l.rest)

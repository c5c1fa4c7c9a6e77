use Rattle.std.proofs.Common.{◌≡◌, ◌++◌, length}
use Rattle.std.specs.Vec.Iter.{into_iter_items}
use Rattle.tree_draft.specs.Slots.{held}
use Rattle.tree_draft.proofs.open_values.OpenValues.into_values.Given as goal

abbrev pub invariant-slots : goal.invariant-slots
invariant-slots l = l.values ++ held (into_iter_items l.rest) ≡ l.fn.self

abbrev pub decreases-slots : goal.decreases-slots
decreases-slots l = length (into_iter_items l.rest)

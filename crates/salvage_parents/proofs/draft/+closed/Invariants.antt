use Rattle.std.proofs.Common.{◌≡◌, ◌++◌, length}
use Rattle.std.specs.Vec.Iter.{into_iter_items}
use Rattle.hive_model.specs.Codes.{weight, weights}
use Rattle.salvage_parents.proofs.draft.+closed.Given as goal

abbrev pub decreases-Draft::closed : goal.decreases-Draft::closed
decreases-Draft::closed l = weight l.self

abbrev pub decreases-DraftKeys::closed : goal.decreases-DraftKeys::closed
decreases-DraftKeys::closed l = weights l.self

abbrev pub invariant-DraftKeys::closed-keys : goal.invariant-DraftKeys::closed-keys
invariant-DraftKeys::closed-keys l = l.closed ++ into_iter_items l.rest ≡ l.fn.self

abbrev pub decreases-DraftKeys::closed-keys : goal.decreases-DraftKeys::closed-keys
decreases-DraftKeys::closed-keys l = length (into_iter_items l.rest)

use Rattle.std.proofs.Common.{◌≡◌, ◌++◌, length}
use Rattle.std.specs.Vec.Iter.{into_iter_items}
use Rattle.salvage_parents.proofs.draft.each_open.Given as goal

abbrev pub invariant-keys : goal.invariant-keys
invariant-keys l = l.drafts.items ++ into_iter_items l.rest ≡ l.fn.keys

abbrev pub decreases-keys : goal.decreases-keys
decreases-keys l = length (into_iter_items l.rest)

use Rattle.std.proofs.Common.{◌≡◌, ◌++◌, List, length}
use Rattle.std.specs.Vec.Iter.{into_iter_items}
use Rattle.hive_model.specs.Tree.{Tree}
use Rattle.tree_draft.specs.Children.{AreOpened}
use Rattle.tree_draft.proofs.children.by_name.Given as goal

-- the keys that were put in are those before the rest
abbrev pub invariant-keys : goal.invariant-keys
invariant-keys l = (done : List Tree) × (done ++ into_iter_items l.rest ≡ l.fn.keys) × AreOpened done l.opened.entries

abbrev pub decreases-keys : goal.decreases-keys
decreases-keys l = length (into_iter_items l.rest)

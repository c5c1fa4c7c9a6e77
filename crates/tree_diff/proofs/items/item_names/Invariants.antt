use Rattle.std.proofs.Common.{◌≡◌, take}
use Rattle.tree_diff.specs.Heads.{item_names}
use Rattle.tree_diff.proofs.items.item_names.Given as goal

abbrev pub invariant-loop-item : goal.invariant-loop-item
invariant-loop-item l = l.names ≡ item_names (take l.item-index l.items)

use Rattle.std.proofs.Common.{◌≡◌, ◌++◌, take}
use Rattle.std.specs.List.{flat_map}
use Rattle.tree_diff.specs.Heads.{paired_items}
use Rattle.tree_diff.proofs.items.put_pairs.Given as goal

abbrev pub invariant-loop-item : goal.invariant-loop-item
invariant-loop-item l = l.lines ≡ l.initial.lines ++ flat_map (paired_items l.path l.others) (take l.item-index l.items)

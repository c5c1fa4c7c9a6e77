use Rattle.std.proofs.Common.{◌≡◌, ◌++◌, take}
use Rattle.std.specs.List.{flat_map}
use Rattle.tree_diff.specs.Heads.{lone_item}
use Rattle.tree_diff.proofs.items.put_lone.Given as goal

abbrev pub invariant-loop-item : goal.invariant-loop-item
invariant-loop-item l = l.lines ≡ l.initial.lines ++ flat_map (lone_item l.side l.path l.others) (take l.item-index l.items)

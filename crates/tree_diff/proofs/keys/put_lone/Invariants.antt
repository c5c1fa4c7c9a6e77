use Rattle.std.proofs.Common.{◌≡◌, ◌++◌, take}
use Rattle.std.specs.List.{flat_map}
use Rattle.tree_diff.specs.Heads.{lone_key}
use Rattle.tree_diff.proofs.keys.put_lone.Given as goal

abbrev pub invariant-loop-key : goal.invariant-loop-key
invariant-loop-key l = l.lines ≡ l.initial.lines ++ flat_map (lone_key l.side l.path l.others) (take l.key-index l.keys)

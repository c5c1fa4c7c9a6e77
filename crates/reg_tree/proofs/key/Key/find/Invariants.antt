use Rattle.std.proofs.Common.{◌≡◌, length}
use Rattle.hive_model.specs.Tree.{find_key}
use Rattle.reg_tree.proofs.key.Key.find.Given as goal

abbrev pub invariant-path : goal.invariant-path
invariant-path l = find_key l.rest l.key ≡ find_key l.path l.self

abbrev pub decreases-path : goal.decreases-path
decreases-path l = length l.rest

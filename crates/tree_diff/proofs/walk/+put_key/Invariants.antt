use Rattle.std.proofs.Common.{◌≡◌, ◌≤◌, ◌+◌, ◌*◌, ◌++◌, length}
use Rattle.hive_model.specs.Tree.{trees}
use Rattle.hive_model.specs.Codes.{weight, weights}
use Rattle.tree_diff.specs.Trees.{keys_lines}
use Rattle.tree_diff.proofs.walk.+put_key.Given as goal

abbrev pub decreases-put_key : goal.decreases-put_key
decreases-put_key l = 2 * weight l.a.now

abbrev pub decreases-put_keys : goal.decreases-put_keys
decreases-put_keys l = 2 * weights l.keys.now

abbrev pub decreases-put_paired : goal.decreases-put_paired
decreases-put_paired l = 2 * weight l.key.now + 1

abbrev pub invariant-put_keys-keys : goal.invariant-put_keys-keys
invariant-put_keys-keys l = record {
  lines : l.lines ++ keys_lines l.path.items l.others (trees l.rest)
      ≡ l.fn.lines ++ keys_lines l.fn.path.items l.others (trees l.keys);
  path : l.path.items ≡ l.fn.path.items;
  fewer : weights l.rest ≤ weights l.keys;
}

abbrev pub decreases-put_keys-keys : goal.decreases-put_keys-keys
decreases-put_keys-keys l = length l.rest

use Rattle.std.proofs.Common.{◌≡◌, ◌≤◌, ◌++◌, length}
use Rattle.hive_model.specs.Tree.{trees}
use Rattle.hive_model.specs.Codes.{weight, weights}
use Rattle.tree_text.specs.TreeObjects.{lines_json, keys_lines}
use Rattle.tree_text.proofs.objects.+push_key.Given as goal

abbrev pub decreases-push_key : goal.decreases-push_key
decreases-push_key l = weight l.key.now

abbrev pub decreases-push_keys : goal.decreases-push_keys
decreases-push_keys l = weights l.keys.now

abbrev pub invariant-push_keys-keys : goal.invariant-push_keys-keys
invariant-push_keys-keys l = record {
  lines : l.out.items ++ lines_json (keys_lines l.level (trees l.rest))
      ≡ l.fn.out.items ++ lines_json (keys_lines l.level (trees l.keys));
  fewer : weights l.rest ≤ weights l.keys;
}

abbrev pub decreases-push_keys-keys : goal.decreases-push_keys-keys
decreases-push_keys-keys l = length l.rest

use Rattle.std.proofs.Common.{◌≡◌, ◌≤◌, ◌++◌, length}
use Rattle.hive_model.specs.Tree.{trees}
use Rattle.hive_model.specs.Codes.{weight, weights}
use Rattle.tree_text.specs.TreeText.{keys_text}
use Rattle.tree_text.proofs.walk.+push_key.Given as goal

abbrev pub decreases-push_key : goal.decreases-push_key
decreases-push_key l = weight l.key.now

abbrev pub decreases-push_keys : goal.decreases-push_keys
decreases-push_keys l = weights l.keys.now

abbrev pub invariant-push_keys-keys : goal.invariant-push_keys-keys
invariant-push_keys-keys l = record {
  text : l.out.items ++ keys_text l.margin.items (trees l.rest) ≡ l.fn.out.items
      ++ keys_text l.fn.margin.items (trees l.keys);
  margin : l.margin.items ≡ l.fn.margin.items;
  fewer : weights l.rest ≤ weights l.keys;
}

abbrev pub decreases-push_keys-keys : goal.decreases-push_keys-keys
decreases-push_keys-keys l = length l.rest

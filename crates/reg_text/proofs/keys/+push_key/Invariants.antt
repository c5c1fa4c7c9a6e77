use Rattle.std.proofs.Common.{◌≡◌, ◌+◌, ◌*◌, ◌≤◌, ◌++◌, length}
use Rattle.hive_model.specs.Tree.{trees}
use Rattle.hive_model.specs.Codes.{weight, weights}
use Rattle.reg_text.specs.Writing.{keys_text}
use Rattle.reg_text.proofs.keys.+push_key.Given as goal

abbrev pub decreases-push_key : goal.decreases-push_key
decreases-push_key l = 2 * weight l.key.now

abbrev pub decreases-push_child : goal.decreases-push_child
decreases-push_child l = 2 * weight l.key.now + 1

abbrev pub decreases-push_keys : goal.decreases-push_keys
decreases-push_keys l = 2 * weights l.keys.now

abbrev pub invariant-push_keys-keys : goal.invariant-push_keys-keys
invariant-push_keys-keys l = record {
  text : l.out.items ++ keys_text l.place.items (trees l.rest) ≡ l.fn.out.items
      ++ keys_text l.fn.place.items (trees l.keys);
  place : l.place.items ≡ l.fn.place.items;
  fewer : weights l.rest ≤ weights l.keys;
}

abbrev pub decreases-push_keys-keys : goal.decreases-push_keys-keys
decreases-push_keys-keys l = length l.rest

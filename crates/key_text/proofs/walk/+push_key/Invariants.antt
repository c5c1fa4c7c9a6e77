use Rattle.std.proofs.Common.{◌≡◌, ◌≤◌, ◌++◌, length}
use Rattle.hive_model.specs.Tree.{trees}
use Rattle.hive_model.specs.Codes.{weight, weights}
use Rattle.key_text.specs.Lines.{printed_lines}
use Rattle.key_text.specs.Blocks.{keys_lines}
use Rattle.key_text.proofs.walk.+push_key.Given as goal

abbrev pub decreases-push_key : goal.decreases-push_key
decreases-push_key l = weight l.key.now

abbrev pub decreases-push_keys : goal.decreases-push_keys
decreases-push_keys l = weights l.keys.now

abbrev pub invariant-push_keys-keys : goal.invariant-push_keys-keys
invariant-push_keys-keys l = record {
  lines : l.out.items ++ printed_lines l.form (keys_lines l.security l.depth l.path.items (trees l.rest))
      ≡ l.fn.out.items
      ++ printed_lines l.form (keys_lines l.security l.depth l.fn.path.items (trees l.keys));
  path : l.path.items ≡ l.fn.path.items;
  fewer : weights l.rest ≤ weights l.keys;
}

abbrev pub decreases-push_keys-keys : goal.decreases-push_keys-keys
decreases-push_keys-keys l = length l.rest

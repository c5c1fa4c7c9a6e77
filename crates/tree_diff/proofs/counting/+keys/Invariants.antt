use Rattle.std.proofs.Common.{◌≡◌, ◌+◌, ◌≤◌, length}
use Rattle.hive_model.specs.Tree.{trees, keys_count}
use Rattle.hive_model.specs.Codes.{weight, weights}
use Rattle.nt_bytes.specs.Counts.{capped}
use Rattle.tree_diff.proofs.counting.+keys.Given as goal

abbrev pub decreases-key_count : goal.decreases-key_count
decreases-key_count l = weight l.key.now

abbrev pub decreases-keys_count : goal.decreases-keys_count
decreases-keys_count l = weights l.keys.now

abbrev pub invariant-keys_count-keys : goal.invariant-keys_count-keys
invariant-keys_count-keys l = record {
  so_far : capped (l.total + keys_count (trees l.rest)) ≡ capped (keys_count (trees l.keys));
  small : l.total ≤ 18446744073709551615;
  fewer : weights l.rest ≤ weights l.keys;
}

abbrev pub decreases-keys_count-keys : goal.decreases-keys_count-keys
decreases-keys_count-keys l = length l.rest

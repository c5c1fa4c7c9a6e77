use Rattle.std.proofs.Common.{◌≡◌, ◌+◌, ◌≤◌, length}
use Rattle.hive_model.specs.Tree.{trees, keys_count}
use Rattle.hive_model.specs.Codes.{weight, weights}
use Rattle.nt_bytes.specs.Counts.{capped}
use Rattle.salvage_text.proofs.counting.+keys_of.Given as goal

abbrev pub decreases-keys_of : goal.decreases-keys_of
decreases-keys_of l = weight l.tree.now

abbrev pub decreases-keys_of_all : goal.decreases-keys_of_all
decreases-keys_of_all l = weights l.keys.now

abbrev pub invariant-keys_of_all-keys : goal.invariant-keys_of_all-keys
invariant-keys_of_all-keys l = record {
  found : capped (l.found + keys_count (trees l.rest)) ≡ capped (keys_count (trees l.keys));
  small : l.found ≤ 18446744073709551615;
  fewer : weights l.rest ≤ weights l.keys;
}

abbrev pub decreases-keys_of_all-keys : goal.decreases-keys_of_all-keys
decreases-keys_of_all-keys l = length l.rest

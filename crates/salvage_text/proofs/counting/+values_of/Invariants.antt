use Rattle.std.proofs.Common.{◌≡◌, ◌+◌, ◌≤◌, length}
use Rattle.hive_model.specs.Tree.{trees, items_count}
use Rattle.hive_model.specs.Codes.{weight, weights}
use Rattle.nt_bytes.specs.Counts.{capped}
use Rattle.salvage_text.proofs.counting.+values_of.Given as goal

abbrev pub decreases-values_of : goal.decreases-values_of
decreases-values_of l = weight l.tree.now

abbrev pub decreases-values_of_all : goal.decreases-values_of_all
decreases-values_of_all l = weights l.keys.now

abbrev pub invariant-values_of_all-keys : goal.invariant-values_of_all-keys
invariant-values_of_all-keys l = record {
  found : capped (l.found + items_count (trees l.rest)) ≡ capped (items_count (trees l.keys));
  small : l.found ≤ 18446744073709551615;
  fewer : weights l.rest ≤ weights l.keys;
}

abbrev pub decreases-values_of_all-keys : goal.decreases-values_of_all-keys
decreases-values_of_all-keys l = length l.rest

use Rattle.std.proofs.Common.{◌≡◌, ◌+◌, ◌≤◌, length}
use Rattle.hive_model.specs.Tree.{trees, items_count}
use Rattle.hive_model.specs.Codes.{weight, weights}
use Rattle.nt_bytes.specs.Counts.{capped}
use Rattle.text_commands.proofs.counts.+values.Given as goal

abbrev pub decreases-item_count : goal.decreases-item_count
decreases-item_count l = weight l.key.now

abbrev pub decreases-items_count : goal.decreases-items_count
decreases-items_count l = weights l.keys.now

abbrev pub invariant-items_count-keys : goal.invariant-items_count-keys
invariant-items_count-keys l = record {
  so_far : capped (l.total + items_count (trees l.rest)) ≡ capped (items_count (trees l.keys));
  small : l.total ≤ 18446744073709551615;
  fewer : weights l.rest ≤ weights l.keys;
}

abbrev pub decreases-items_count-keys : goal.decreases-items_count-keys
decreases-items_count-keys l = length l.rest

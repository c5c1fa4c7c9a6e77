use Rattle.std.proofs.Common.{◌≤◌, length}
use Rattle.hive_model.specs.Tree.{trees}
use Rattle.hive_model.specs.Codes.{weight, weights}
use Rattle.hive_pack.specs.Numbers.{AllHaveNumbers}
use Rattle.hive_pack.proofs.numbers.+numbers.Given as goal

abbrev pub decreases-numbers_fit : goal.decreases-numbers_fit
decreases-numbers_fit l = weight l.key.now

abbrev pub decreases-all_fit : goal.decreases-all_fit
decreases-all_fit l = weights l.keys.now

abbrev pub invariant-all_fit-keys : goal.invariant-all_fit-keys
invariant-all_fit-keys l = record {
  all : AllHaveNumbers (trees l.rest) → AllHaveNumbers (trees l.keys);
  fewer : weights l.rest ≤ weights l.keys;
}

abbrev pub decreases-all_fit-keys : goal.decreases-all_fit-keys
decreases-all_fit-keys l = length l.rest

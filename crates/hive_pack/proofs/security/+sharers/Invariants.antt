use Rattle.std.proofs.Common.{◌≡◌, ◌+◌, ◌≤◌, length}
use Rattle.hive_model.specs.Tree.{trees}
use Rattle.hive_model.specs.Codes.{weight, weights}
use Rattle.hive_model.specs.Packed.{sharers_of_all}
use Rattle.hive_pack.proofs.security.+sharers.Given as goal

abbrev pub decreases-sharers : goal.decreases-sharers
decreases-sharers l = weight l.key.now

abbrev pub decreases-sharers_of_all : goal.decreases-sharers_of_all
decreases-sharers_of_all l = weights l.keys.now

abbrev pub invariant-sharers_of_all-keys : goal.invariant-sharers_of_all-keys
invariant-sharers_of_all-keys l = record {
  found : l.found + sharers_of_all l.security (trees l.rest) ≡ sharers_of_all l.security (trees l.keys);
  fewer : weights l.rest ≤ weights l.keys;
}

abbrev pub decreases-sharers_of_all-keys : goal.decreases-sharers_of_all-keys
decreases-sharers_of_all-keys l = length l.rest

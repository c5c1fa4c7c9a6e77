use Rattle.std.proofs.Common.{◌≡◌, ◌≤◌, length}
use Rattle.std.specs.Prelude.{nat_lt}
use Rattle.hive_model.specs.Tree.{trees}
use Rattle.hive_model.specs.Codes.{weight, weights}
use Rattle.hive_model.specs.Valid.{most_levels}
use Rattle.reg_tree.proofs.key.+is_deeper.Given as goal

abbrev pub decreases-Key::is_deeper : goal.decreases-Key::is_deeper
decreases-Key::is_deeper l = weight l.self.now

abbrev pub decreases-Keys::are_deeper : goal.decreases-Keys::are_deeper
decreases-Keys::are_deeper l = weights l.self.now

abbrev pub invariant-Keys::are_deeper-keys : goal.invariant-Keys::are_deeper-keys
invariant-Keys::are_deeper-keys l = record {
  deep : nat_lt l.most (most_levels (trees l.rest)) ≡ nat_lt l.most (most_levels (trees l.self));
  fewer : weights l.rest ≤ weights l.self;
}

abbrev pub decreases-Keys::are_deeper-keys : goal.decreases-Keys::are_deeper-keys
decreases-Keys::are_deeper-keys l = length l.rest

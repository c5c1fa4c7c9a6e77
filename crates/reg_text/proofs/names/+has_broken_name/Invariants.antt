use Rattle.std.proofs.Common.{◌≡◌, ◌≤◌, length}
use Rattle.hive_model.specs.Tree.{trees}
use Rattle.hive_model.specs.Codes.{weight, weights}
use Rattle.reg_text.specs.Writing.{have_broken_names}
use Rattle.reg_text.proofs.names.+has_broken_name.Given as goal

abbrev pub decreases-has_broken_name : goal.decreases-has_broken_name
decreases-has_broken_name l = weight l.key.now

abbrev pub decreases-have_broken_names : goal.decreases-have_broken_names
decreases-have_broken_names l = weights l.keys.now

abbrev pub invariant-have_broken_names-keys : goal.invariant-have_broken_names-keys
invariant-have_broken_names-keys l = record {
  same : have_broken_names (trees l.rest) ≡ have_broken_names (trees l.keys);
  fewer : weights l.rest ≤ weights l.keys;
}

abbrev pub decreases-have_broken_names-keys : goal.decreases-have_broken_names-keys
decreases-have_broken_names-keys l = length l.rest

use Rattle.std.proofs.Common.{◌≡◌, ◌≤◌, ◌+◌, ◌*◌, ◌++◌, length}
use Rattle.hive_model.specs.Tree.{trees}
use Rattle.hive_model.specs.Codes.{weight, weights}
use Rattle.tree_diff.specs.Trees.{keys_marks}
use Rattle.tree_diff.proofs.whole.+put_marks.Given as goal

abbrev pub decreases-put_marks : goal.decreases-put_marks
decreases-put_marks l = 2 * weight l.a.now

abbrev pub decreases-put_all_marks : goal.decreases-put_all_marks
decreases-put_all_marks l = 2 * weights l.keys.now

abbrev pub decreases-put_paired_marks : goal.decreases-put_paired_marks
decreases-put_paired_marks l = 2 * weight l.key.now + 1

abbrev pub invariant-put_all_marks-keys : goal.invariant-put_all_marks-keys
invariant-put_all_marks-keys l = record {
  marks : l.marks ++ keys_marks l.others (trees l.rest) ≡ l.fn.marks ++ keys_marks l.others (trees l.keys);
  fewer : weights l.rest ≤ weights l.keys;
}

abbrev pub decreases-put_all_marks-keys : goal.decreases-put_all_marks-keys
decreases-put_all_marks-keys l = length l.rest

use Rattle.std.proofs.Common.{◌≡◌, ◌+◌, ◌≤◌, ◌++◌, length}
use Rattle.hive_model.specs.Tree.{trees}
use Rattle.hive_model.specs.Codes.{weight, weights}
use Rattle.hive_model.specs.Size.{size_of_all}
use Rattle.hive_model.specs.Packed.{ring_of_all}
use Rattle.hive_pack.proofs.ring.+ring.Given as goal

abbrev pub decreases-ring_of : goal.decreases-ring_of
decreases-ring_of l = weight l.key.now

abbrev pub decreases-ring_of_all : goal.decreases-ring_of_all
decreases-ring_of_all l = weights l.keys.now

abbrev pub invariant-ring_of_all-children : goal.invariant-ring_of_all-children
invariant-ring_of_all-children l = record {
  listed : l.ring.items ++ ring_of_all l.version l.shared l.end (trees l.rest) ≡ l.fn.ring.items
      ++ ring_of_all l.version l.shared l.at (trees l.keys);
  room : l.end + size_of_all l.version l.shared (trees l.rest) ≡ l.at + size_of_all l.version l.shared (trees l.keys);
  fewer : weights l.rest ≤ weights l.keys;
}

abbrev pub decreases-ring_of_all-children : goal.decreases-ring_of_all-children
decreases-ring_of_all-children l = length l.rest

use Rattle.std.proofs.Common.{◌≡◌, ◌+◌, ◌≤◌, ◌++◌, length}
use Rattle.hive_model.specs.Tree.{trees}
use Rattle.hive_model.specs.Codes.{weight, weights}
use Rattle.hive_model.specs.Valid.{AllHoldKeys}
use Rattle.hive_model.specs.Size.{size_of_all}
use Rattle.hive_model.specs.Packed.{text, places, cells_of_all}
use Rattle.hive_pack.specs.Writes.{above}
use Rattle.hive_pack.proofs.write.+pack.Given as goal

abbrev pub decreases-write_key : goal.decreases-write_key
decreases-write_key l = weight l.key.now

abbrev pub decreases-write_children : goal.decreases-write_children
decreases-write_children l = weights l.keys.now

abbrev pub invariant-write_children-children : goal.invariant-write_children-children
invariant-write_children-children l =
    let up = above l.up in
    record {
      written : l.out ++ text (cells_of_all l.version up (length l.out) (trees l.rest)) ≡ l.fn.out
          ++ text (cells_of_all l.version up (length l.fn.out) (trees l.keys));
      places : l.places.items ++ places l.version up.security (length l.out) (trees l.rest)
          ≡ places l.version up.security (length l.fn.out) (trees l.keys);
      valid : AllHoldKeys (trees l.rest);
      room : length l.out + size_of_all l.version up.security (trees l.rest) ≤ 16777216;
      fewer : weights l.rest ≤ weights l.keys;
    }

abbrev pub decreases-write_children-children : goal.decreases-write_children-children
decreases-write_children-children l = length l.rest

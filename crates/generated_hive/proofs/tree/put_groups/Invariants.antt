use Rattle.std.proofs.Common.{◌≡◌, ◌++◌, map}
use Rattle.std.specs.List.{flat_map, range_with_len}
use Rattle.generated_hive.specs.Generated.{group_name, text_bytes}
use Rattle.generated_hive.proofs.tree.put_groups.Given as goal

abbrev pub invariant-loop-k : goal.invariant-loop-k
invariant-loop-k l = l.out ≡ l.fn.out ++ flat_map text_bytes (map group_name (range_with_len 0 l.k))

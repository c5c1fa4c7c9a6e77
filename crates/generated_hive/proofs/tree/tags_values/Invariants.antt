use Rattle.std.proofs.Common.{◌≡◌, map}
use Rattle.std.specs.List.{range_with_len}
use Rattle.generated_hive.specs.Generated.{tags_value}
use Rattle.generated_hive.proofs.tree.tags_values.Given as goal

abbrev pub invariant-loop-k : goal.invariant-loop-k
invariant-loop-k l = l.values ≡ map tags_value (range_with_len 0 l.k)

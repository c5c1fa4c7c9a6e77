use Rattle.std.proofs.Common.{◌≡◌, take}
use Rattle.std.specs.List.{flat_map}
use Rattle.std.specs.Int.{w32, to_le_bytes}
use Rattle.generated_hive.specs.Generated.{tag_order}
use Rattle.generated_hive.proofs.tree.tags.Given as goal

abbrev pub invariant-loop-number : goal.invariant-loop-number
invariant-loop-number l = l.bytes ≡ flat_map (to_le_bytes w32) (take l.number-index tag_order)

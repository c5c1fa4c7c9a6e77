use Rattle.std.proofs.Common.{◌≡◌, take, map}
use Rattle.hive_model.specs.Packed.{hint}
use Rattle.hive_pack.proofs.lists.hints.Given as goal

abbrev pub invariant-loop-key : goal.invariant-loop-key
invariant-loop-key l = l.made.items ≡ map (hint l.version) (take l.key-index l.keys)

use Rattle.std.proofs.Common.{◌≡◌, map, take}
use Rattle.hive_model.specs.Tree.{head}
use Rattle.safe_boot.proofs.listing.names_of.Given as goal

abbrev pub invariant-loop-key : goal.invariant-loop-key
invariant-loop-key l = l.names ≡ map (λ t. (head t).name) (take l.key-index l.keys)

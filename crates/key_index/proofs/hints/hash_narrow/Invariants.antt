use Rattle.std.proofs.Common.{◌≡◌, length}
use Rattle.hive_model.specs.Lists.{hash_from, hash_of}
use Rattle.key_index.proofs.hints.hash_narrow.Given as goal

abbrev pub invariant-units : goal.invariant-units
invariant-units l = hash_from l.hash l.rest ≡ hash_of l.stored

abbrev pub decreases-units : goal.decreases-units
decreases-units l = length l.rest

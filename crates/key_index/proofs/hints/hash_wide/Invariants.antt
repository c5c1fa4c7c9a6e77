use Rattle.std.proofs.Common.{◌≡◌, length}
use Rattle.nt_bytes.specs.Text.{wide_of}
use Rattle.hive_model.specs.Lists.{hash_from, hash_of}
use Rattle.key_index.proofs.hints.hash_wide.Given as goal

abbrev pub invariant-units : goal.invariant-units
invariant-units l = hash_from l.hash (wide_of l.rest) ≡ hash_of (wide_of l.stored)

abbrev pub decreases-units : goal.decreases-units
decreases-units l = length l.rest

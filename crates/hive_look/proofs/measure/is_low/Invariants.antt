use Rattle.std.proofs.Common.{◌≡◌, length}
use Rattle.nt_bytes.specs.Text.{wide_of}
use Rattle.hive_model.specs.Size.{is_narrow}
use Rattle.hive_look.proofs.measure.is_low.Given as goal

abbrev pub invariant-units : goal.invariant-units
invariant-units l = is_narrow (wide_of l.rest) ≡ is_narrow (wide_of l.stored)

abbrev pub decreases-units : goal.decreases-units
decreases-units l = length l.rest

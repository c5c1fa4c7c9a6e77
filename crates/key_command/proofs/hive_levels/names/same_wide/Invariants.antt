use Rattle.std.proofs.Common.{◌≡◌, length}
use Rattle.nt_bytes.specs.Folding.{folds_same}
use Rattle.nt_bytes.specs.Text.{wide_of}
use Rattle.key_command.proofs.hive_levels.names.same_wide.Given as goal

abbrev pub invariant-units : goal.invariant-units
invariant-units l = folds_same l.xs (wide_of l.ys) ≡ folds_same l.name (wide_of l.stored)

abbrev pub decreases-units : goal.decreases-units
decreases-units l = length l.ys

use Rattle.std.proofs.Common.{◌≡◌, length}
use Rattle.nt_bytes.specs.Folding.{folds_same}
use Rattle.key_command.proofs.hive_levels.names.same_narrow.Given as goal

abbrev pub invariant-units : goal.invariant-units
invariant-units l = folds_same l.xs l.ys ≡ folds_same l.name l.stored

abbrev pub decreases-units : goal.decreases-units
decreases-units l = length l.xs

use Rattle.std.proofs.Common.{◌≡◌, length}
use Rattle.std.specs.Str.{bytes_eq}
use Rattle.reg_text.proofs.units.is_text.Given as goal

abbrev pub invariant-units : goal.invariant-units
invariant-units l = bytes_eq l.xs l.ys ≡ bytes_eq l.units l.text

abbrev pub decreases-units : goal.decreases-units
decreases-units l = length l.xs

use Rattle.std.proofs.Common.{◌≡◌, length}
use Rattle.reg_text.specs.Items.{behind}
use Rattle.reg_text.proofs.units.behind.Given as goal

abbrev pub invariant-units : goal.invariant-units
invariant-units l = behind l.ys l.xs ≡ behind l.word l.text

abbrev pub decreases-units : goal.decreases-units
decreases-units l = length l.ys

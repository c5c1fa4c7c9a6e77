use Rattle.std.proofs.Common.{◌≡◌, false, length}
use Rattle.reg_text.specs.Quotes.{with_units, quoted_from}
use Rattle.reg_text.proofs.quotes.quoted.Given as goal

abbrev pub invariant-units : goal.invariant-units
invariant-units l = with_units l.made (quoted_from false l.rest) ≡ quoted_from false l.text

abbrev pub decreases-units : goal.decreases-units
decreases-units l = length l.rest

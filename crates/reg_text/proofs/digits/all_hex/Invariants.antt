use Rattle.std.proofs.Common.{◌≡◌, length}
use Rattle.std.specs.List.{list_all}
use Rattle.reg_text.specs.Digits.{is_hex}
use Rattle.reg_text.proofs.digits.all_hex.Given as goal

abbrev pub invariant-units : goal.invariant-units
invariant-units l = list_all is_hex l.rest ≡ list_all is_hex l.text

abbrev pub decreases-units : goal.decreases-units
decreases-units l = length l.rest

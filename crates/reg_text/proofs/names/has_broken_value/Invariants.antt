use Rattle.std.proofs.Common.{◌≡◌, length}
use Rattle.reg_text.specs.Writing.{has_broken_value}
use Rattle.reg_text.proofs.names.has_broken_value.Given as goal

abbrev pub invariant-values : goal.invariant-values
invariant-values l = has_broken_value l.rest ≡ has_broken_value l.values

abbrev pub decreases-values : goal.decreases-values
decreases-values l = length l.rest

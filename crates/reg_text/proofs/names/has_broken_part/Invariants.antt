use Rattle.std.proofs.Common.{◌≡◌, length}
use Rattle.std.specs.List.{list_any}
use Rattle.reg_text.specs.Writing.{breaks}
use Rattle.reg_text.proofs.names.has_broken_part.Given as goal

abbrev pub invariant-names : goal.invariant-names
invariant-names l = list_any breaks l.rest ≡ list_any breaks l.names

abbrev pub decreases-names : goal.decreases-names
decreases-names l = length l.rest

use Rattle.std.proofs.Common.{◌≡◌, ◌++◌, length}
use Rattle.std.specs.List.{flat_map}
use Rattle.reg_text.specs.Writing.{unit_bytes}
use Rattle.reg_text.proofs.writing.push_units.Given as goal

abbrev pub invariant-fours : goal.invariant-fours
invariant-fours l = l.out.items ++ flat_map unit_bytes l.rest ≡ l.fn.out.items ++ flat_map unit_bytes l.units

abbrev pub decreases-fours : goal.decreases-fours
decreases-fours l = length l.rest

use Rattle.std.proofs.Common.{◌≡◌, ◌++◌, length}
use Rattle.nt_names.specs.written_name.Written.{with_escapes_read}
use Rattle.nt_names.proofs.written_name.word.push_read.Given as goal

abbrev pub invariant-units : goal.invariant-units
invariant-units l = l.name ++ with_escapes_read l.rest ≡ l.fn.name ++ with_escapes_read l.units

abbrev pub decreases-units : goal.decreases-units
decreases-units l = length l.rest

use Rattle.std.proofs.Common.{◌≡◌, length}
use Rattle.std.specs.List.{list_any}
use Rattle.nt_bytes.specs.Text.{is_backslash}
use Rattle.cell_forms.proofs.stored.has_backslash_byte.Given as goal

abbrev pub invariant-bytes : goal.invariant-bytes
invariant-bytes l = list_any is_backslash l.rest ≡ list_any is_backslash l.bytes

abbrev pub decreases-bytes : goal.decreases-bytes
decreases-bytes l = length l.rest

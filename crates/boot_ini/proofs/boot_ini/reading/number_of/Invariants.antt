use Rattle.std.proofs.Common.{◌≡◌, ◌+◌, drop}
use Rattle.std.specs.List.{position_or_len}
use Rattle.nt_bytes.specs.Text.{names_same}
use Rattle.boot_ini.proofs.boot_ini.reading.number_of.Given as goal

abbrev pub invariant-loop-entry : goal.invariant-loop-entry
invariant-loop-entry l =
    (l.number ≡ l.entry-index + 1)
    × (l.entry-index + position_or_len (λ e. names_same e.path l.default) (drop l.entry-index l.entries)
    ≡ position_or_len (λ e. names_same e.path l.default) l.entries)

use Rattle.std.proofs.Common.{◌≡◌, ◌+◌, drop}
use Rattle.std.specs.List.{position_or_len}
use Rattle.nt_bytes.specs.Text.{is_blank}
use Rattle.boot_ini.proofs.boot_ini.entries.blank_place.Given as goal

abbrev pub invariant-loop-c : goal.invariant-loop-c
invariant-loop-c l = (l.place ≡ l.c-index)
    × (l.c-index + position_or_len is_blank (drop l.c-index l.text) ≡ position_or_len is_blank l.text)

use Rattle.std.proofs.Common.{◌≡◌, ◌+◌, drop}
use Rattle.std.specs.Prelude.{◌==◌}
use Rattle.std.specs.List.{position_or_len}
use Rattle.boot_ini.proofs.boot_ini.places.place_of.Given as goal

abbrev pub invariant-loop-c : goal.invariant-loop-c
invariant-loop-c l = (l.place ≡ l.c-index)
    × (l.c-index + position_or_len (λ c. c == l.byte) (drop l.c-index l.text)
    ≡ position_or_len (λ c. c == l.byte) l.text)

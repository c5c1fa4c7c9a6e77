use Rattle.std.proofs.Common.{◌≡◌, ◌+◌, drop}
use Rattle.std.specs.Char.{is_digit}
use Rattle.std.specs.List.{prefix_len}
use Rattle.boot_ini.proofs.arc_path.reading.digit_count.Given as goal

abbrev pub invariant-loop-c : goal.invariant-loop-c
invariant-loop-c l =
    (l.count ≡ l.c-index) × (l.c-index + prefix_len (λ c. is_digit c l.radix) (drop l.c-index l.text)
    ≡ prefix_len (λ c. is_digit c l.radix) l.text)

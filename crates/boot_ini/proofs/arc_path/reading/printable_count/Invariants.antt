use Rattle.std.proofs.Common.{◌≡◌, ◌+◌, drop}
use Rattle.std.specs.List.{prefix_len}
use Rattle.nt_bytes.specs.Text.{is_printable}
use Rattle.boot_ini.proofs.arc_path.reading.printable_count.Given as goal

abbrev pub invariant-loop-c : goal.invariant-loop-c
invariant-loop-c l =
    (l.count ≡ l.c-index) × (l.c-index + prefix_len is_printable (drop l.c-index l.text)
    ≡ prefix_len is_printable l.text)

use Rattle.std.proofs.Common.{◌≡◌, ◌+◌, drop}
use Rattle.std.specs.List.{prefix_len}
use Rattle.boot_script.specs.boot_script.Words.{is_quotable}
use Rattle.boot_script.proofs.boot_script.words.quotable_count.Given as goal

abbrev pub invariant-loop-c : goal.invariant-loop-c
invariant-loop-c l = (l.count ≡ l.c-index)
    × (l.c-index + prefix_len is_quotable (drop l.c-index l.text) ≡ prefix_len is_quotable l.text)

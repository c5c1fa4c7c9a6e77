use Rattle.std.proofs.Common.{◌≡◌, ◌++◌, take}
use Rattle.std.specs.List.{flat_map}
use Rattle.boot_script.specs.boot_script.Values.{wide_bytes}
use Rattle.boot_script.proofs.boot_script.data.push_text.Given as goal

abbrev pub invariant-loop-c : goal.invariant-loop-c
invariant-loop-c l = l.out ≡ l.fn.out ++ flat_map wide_bytes (take l.c-index l.text)

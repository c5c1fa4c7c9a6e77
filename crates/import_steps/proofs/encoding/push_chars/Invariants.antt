use Rattle.std.proofs.Common.{◌≡◌, ◌++◌, take}
use Rattle.std.specs.List.{flat_map}
use Rattle.import_steps.specs.Encoding.{char_bytes}
use Rattle.import_steps.proofs.encoding.push_chars.Given as goal

abbrev pub invariant-loop-c : goal.invariant-loop-c
invariant-loop-c l = l.out.items ≡ l.fn.out.items ++ flat_map char_bytes (take l.c-index l.chars)

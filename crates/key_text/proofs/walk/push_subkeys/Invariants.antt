use Rattle.std.proofs.Common.{◌≡◌, ◌++◌, take, map}
use Rattle.key_text.specs.Lines.{printed_lines}
use Rattle.key_text.specs.Blocks.{subkey_line}
use Rattle.key_text.proofs.walk.push_subkeys.Given as goal

abbrev pub invariant-loop-key : goal.invariant-loop-key
invariant-loop-key l = l.out.items ≡ l.fn.out.items
    ++ printed_lines l.form (map subkey_line (take l.key-index l.keys))

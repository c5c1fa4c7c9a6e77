use Rattle.std.proofs.Common.{◌≡◌, ◌++◌, take}
use Rattle.std.specs.Prelude.{codes}
use Rattle.std.specs.List.{flat_map}
use Rattle.reg_text.specs.Writing.{byte_digits}
use Rattle.reg_text.proofs.values.push_few_bytes.Given as goal

abbrev pub invariant-loop-byte : goal.invariant-loop-byte
invariant-loop-byte l = l.out.items ≡ l.fn.out.items
    ++ flat_map (λ b. codes "," ++ byte_digits b) (take l.byte-index l.bytes)

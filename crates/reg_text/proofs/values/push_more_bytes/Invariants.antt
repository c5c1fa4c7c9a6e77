use Rattle.std.proofs.Common.{◌≡◌, ◌++◌, length}
use Rattle.std.specs.Prelude.{codes}
use Rattle.std.specs.List.{flat_map}
use Rattle.reg_text.specs.Writing.{byte_digits}
use Rattle.reg_text.proofs.values.push_more_bytes.Given as goal

abbrev pub invariant-fours : goal.invariant-fours
invariant-fours l = l.out.items ++ flat_map (λ b. codes "," ++ byte_digits b) l.rest ≡ l.fn.out.items
    ++ flat_map (λ b. codes "," ++ byte_digits b) l.bytes

abbrev pub decreases-fours : goal.decreases-fours
decreases-fours l = length l.rest

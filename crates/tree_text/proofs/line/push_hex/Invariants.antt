use Rattle.std.proofs.Common.{◌≡◌, ◌++◌, length}
use Rattle.hex.specs.Hex.{encode_lower}
use Rattle.tree_text.proofs.line.push_hex.Given as goal

abbrev pub invariant-fours : goal.invariant-fours
invariant-fours l = l.out.items ++ encode_lower l.rest ≡ l.fn.out.items ++ encode_lower l.bytes

abbrev pub decreases-fours : goal.decreases-fours
decreases-fours l = length l.rest

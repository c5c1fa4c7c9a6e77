use Rattle.std.proofs.Common.{◌≡◌, ◌+◌, ◌*◌, map}
use Rattle.std.specs.List.{range_with_len}
use Rattle.nt_bytes.specs.Fields.{u32_in}
use Rattle.set_diff.proofs.groups.numbers.Given as goal

abbrev pub invariant-loop-k : goal.invariant-loop-k
invariant-loop-k l = l.tags ≡ map (λ k. u32_in l.bytes (4 + 4 * k)) (range_with_len 0 l.k)

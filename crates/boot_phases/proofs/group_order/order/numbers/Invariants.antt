use Rattle.std.proofs.Common.{◌≡◌, ◌+◌, ◌*◌, map, vec_len}
use Rattle.std.specs.List.{range_with_len}
use Rattle.nt_bytes.specs.Fields.{u32_in}
use Rattle.boot_phases.proofs.group_order.order.numbers.Given as goal

abbrev pub invariant-loop-k : goal.invariant-loop-k
invariant-loop-k l = record {
  items : l.items.items ≡ map (λ k. u32_in l.bytes (4 + 4 * k)) (range_with_len 0 l.k);
  len : vec_len l.items ≡ l.k;
}

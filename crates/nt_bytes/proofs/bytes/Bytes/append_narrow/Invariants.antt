use Rattle.std.proofs.Common.{◌≡◌, ◌≤◌, ◌+◌, ◌++◌, length, take, vec_len, vec_capacity}
use Rattle.nt_bytes.proofs.bytes.Bytes.append_narrow.Given as goal

-- `room`: memory for all units was taken before the first, so no push is refused
abbrev pub invariant-loop-unit : goal.invariant-loop-unit
invariant-loop-unit l = record {
  so_far : l.self-inside.bytes.items ≡ l.initial.self-inside.bytes.items ++ take l.unit-index l.units;
  room : vec_len l.self-inside.bytes + length l.units ≤ vec_capacity l.self-inside.bytes + l.unit-index;
}

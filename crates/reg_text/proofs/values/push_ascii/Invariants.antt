use Rattle.std.proofs.Common.{◌≡◌, ◌+◌, ◌≤◌, ◌++◌, length, take}
use Rattle.std.specs.Vec.{vec_len, vec_capacity}
use Rattle.reg_text.proofs.values.push_ascii.Given as goal

abbrev pub invariant-loop-c : goal.invariant-loop-c
invariant-loop-c l = record {
  text : l.out.items ≡ l.fn.out.items ++ take l.c-index l.text;
  room : vec_len l.fn.out + length l.text ≤ vec_capacity l.out;
  len : vec_len l.out ≡ vec_len l.fn.out + l.c-index;
}

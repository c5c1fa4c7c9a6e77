use Rattle.std.proofs.Common.{◌≡◌, ◌+◌, ◌*◌, ◌/◌, ◌≤◌, ◌++◌, length}
use Rattle.std.specs.Vec.{vec_len, vec_capacity}
use Rattle.nt_bytes.specs.Text.{sz_of}
use Rattle.reg_text.proofs.values.string_in.Given as goal

abbrev pub invariant-units : goal.invariant-units
invariant-units l = record {
  text : l.text.items ++ sz_of l.rest ≡ sz_of l.bytes;
  room : vec_len l.text + length l.rest / 2 ≤ vec_capacity l.text;
  half : 2 * vec_len l.text + length l.rest ≤ length l.bytes;
}

abbrev pub decreases-units : goal.decreases-units
decreases-units l = length l.rest

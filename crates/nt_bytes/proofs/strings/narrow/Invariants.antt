use Rattle.std.proofs.Common.{◌≡◌, take}
use Rattle.nt_bytes.proofs.strings.narrow.Given as goal

abbrev pub invariant-loop-byte : goal.invariant-loop-byte
invariant-loop-byte l = l.units ≡ take l.byte-index l.bytes

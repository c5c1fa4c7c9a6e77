use Rattle.std.proofs.Common.{refl}
use Rattle.std.proofs.lemmas.Nat.Bits.{shr_and_one}
use Rattle.hive_read.proofs.bits.bit.Goals as goal

pub returns : goal.returns
returns c = rw shr_and_one refl

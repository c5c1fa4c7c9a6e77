use Rattle.std.proofs.Common.{◌≡◌, true, length, nat_lt, arith}
use Rattle.hive_model.specs.Edit.{edited}
use Rattle.hive_examples.proofs.edits.too_many_bytes.Goals as goal

pub returns : goal.returns
unfolding edited
returns c = λ version bytes long. let e : nat_lt 1048576 (length bytes) ≡ true = grind arith in rw e

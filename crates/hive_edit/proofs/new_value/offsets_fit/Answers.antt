use Rattle.std.proofs.Common.{arith}
use Rattle.hive_edit.proofs.NewRunLemmas.{numbers_spelled}
use Rattle.hive_edit.proofs.new_value.offsets_fit.Goals as goal

pub returns : goal.returns
returns c = (numbers_spelled c.args.count c.args.list.now (λ k. omega (arith, c.type_inv.list k)) c.requires).0

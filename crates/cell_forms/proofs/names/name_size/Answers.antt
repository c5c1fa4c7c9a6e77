use Rattle.std.proofs.Common.{arith}
use Rattle.hive_model.proofs.Spelling.{length_wide}
use Rattle.cell_forms.proofs.names.name_size.Goals as goal

pub returns-else-is_narrow-clause-exact : goal.returns-else-is_narrow-clause-exact
returns-else-is_narrow-clause-exact c = rw c.if-is_narrow.false (omega (arith, length_wide c.args.name.now))

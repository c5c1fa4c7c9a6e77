use Rattle.std.proofs.Common.{refl}
use Rattle.hive_examples.proofs.names.strings_are_read.Goals as goal

pub returns-clause-string : goal.returns-clause-string
returns-clause-string c = refl

pub returns-clause-strings : goal.returns-clause-strings
returns-clause-strings c = refl

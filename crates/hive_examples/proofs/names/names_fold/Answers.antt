use Rattle.std.proofs.Common.{refl}
use Rattle.hive_examples.proofs.names.names_fold.Goals as goal

pub returns-clause-folded : goal.returns-clause-folded
returns-clause-folded c = refl

pub returns-clause-same : goal.returns-clause-same
returns-clause-same c = refl

pub returns-clause-front : goal.returns-clause-front
returns-clause-front c = refl

pub returns-clause-letter : goal.returns-clause-letter
returns-clause-letter c = refl

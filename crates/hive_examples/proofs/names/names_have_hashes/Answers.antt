use Rattle.std.proofs.Common.{refl}
use Rattle.hive_examples.proofs.names.names_have_hashes.Goals as goal

pub returns-clause-disk : goal.returns-clause-disk
returns-clause-disk c = refl

pub returns-clause-folded : goal.returns-clause-folded
returns-clause-folded c = refl

pub returns-clause-long : goal.returns-clause-long
returns-clause-long c = refl

pub returns-clause-hint : goal.returns-clause-hint
returns-clause-hint c = refl

pub returns-clause-hashed_hint : goal.returns-clause-hashed_hint
returns-clause-hashed_hint c = refl

use Rattle.std.proofs.Common.{refl}
use Rattle.hive_examples.proofs.names.names_are_stored.Goals as goal

pub returns-clause-wide : goal.returns-clause-wide
returns-clause-wide c = refl

pub returns-clause-wide_flags : goal.returns-clause-wide_flags
returns-clause-wide_flags c = refl

pub returns-clause-wide_hint : goal.returns-clause-wide_hint
returns-clause-wide_hint c = refl

pub returns-clause-narrow : goal.returns-clause-narrow
returns-clause-narrow c = refl

pub returns-clause-narrow_flags : goal.returns-clause-narrow_flags
returns-clause-narrow_flags c = refl

pub returns-clause-narrow_hint : goal.returns-clause-narrow_hint
returns-clause-narrow_hint c = refl

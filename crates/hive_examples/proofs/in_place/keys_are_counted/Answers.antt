use Rattle.std.proofs.Common.{refl}
use Rattle.hive_examples.proofs.in_place.keys_are_counted.Goals as goal

pub returns-clause-more : goal.returns-clause-more
returns-clause-more c = refl

pub returns-clause-less : goal.returns-clause-less
returns-clause-less c = refl

pub returns-clause-in_order : goal.returns-clause-in_order
returns-clause-in_order c = refl

pub returns-clause-greatest : goal.returns-clause-greatest
returns-clause-greatest c = refl

pub returns-clause-from_greatest : goal.returns-clause-from_greatest
returns-clause-from_greatest c = refl

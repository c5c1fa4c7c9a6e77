use Rattle.std.proofs.Common.{refl}
use Rattle.hive_model.specs.Footprint.{list_sizes}
use Rattle.hive_examples.proofs.strains.room_for_lists.Goals as goal

pub returns-clause-none : goal.returns-clause-none
unfolding list_sizes
returns-clause-none c = refl

pub returns-clause-one : goal.returns-clause-one
unfolding list_sizes
returns-clause-one c = refl

pub returns-clause-full : goal.returns-clause-full
unfolding list_sizes
returns-clause-full c = refl

pub returns-clause-two : goal.returns-clause-two
unfolding list_sizes
returns-clause-two c = refl

pub returns-clause-two_full : goal.returns-clause-two_full
unfolding list_sizes
returns-clause-two_full c = refl

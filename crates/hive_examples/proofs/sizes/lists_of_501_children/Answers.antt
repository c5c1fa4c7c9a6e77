use Rattle.std.proofs.Common.{refl}
use Rattle.hive_model.specs.Footprint.{list_sizes}
use Rattle.hive_examples.proofs.sizes.lists_of_501_children.Goals as goal

pub returns : goal.returns
unfolding list_sizes
returns c = refl

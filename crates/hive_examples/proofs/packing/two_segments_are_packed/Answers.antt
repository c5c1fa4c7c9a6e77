use Rattle.std.proofs.Common.{refl}
use Rattle.hive_model.specs.Packed.{item_cells, items_cells, big_cells, class_cells, security_cells, head_cells, list_cells}
use Rattle.hive_examples.proofs.packing.two_segments_are_packed.Goals as goal

pub returns-clause-cells : goal.returns-clause-cells
unfolding item_cells items_cells big_cells class_cells security_cells head_cells list_cells
returns-clause-cells c = refl

pub returns-clause-one_cell : goal.returns-clause-one_cell
unfolding item_cells items_cells big_cells class_cells security_cells head_cells list_cells
returns-clause-one_cell c = refl

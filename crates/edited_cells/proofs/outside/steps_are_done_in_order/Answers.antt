use Rattle.edited_cells.proofs.InOrder.{tree_done, stands_done, parents_done, left_outside}
use Rattle.edited_cells.proofs.outside.steps_are_done_in_order.Goals as goal

pub returns-clause-tree : goal.returns-clause-tree
returns-clause-tree c = tree_done

pub returns-clause-stands : goal.returns-clause-stands
returns-clause-stands c = stands_done

pub returns-clause-parents : goal.returns-clause-parents
returns-clause-parents c = parents_done

pub returns-clause-left : goal.returns-clause-left
returns-clause-left c = left_outside

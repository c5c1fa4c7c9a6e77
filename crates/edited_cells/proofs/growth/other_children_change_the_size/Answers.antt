use Rattle.edited_cells.proofs.ChildEdits.{relisted_size}
use Rattle.edited_cells.proofs.growth.other_children_change_the_size.Goals as goal

pub returns : goal.returns
returns c = relisted_size

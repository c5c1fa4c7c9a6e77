use Rattle.edited_cells.proofs.KeySteps.{a_child_added}
use Rattle.edited_cells.proofs.keys.a_child_is_added.Goals as goal

pub returns : goal.returns
returns c = a_child_added

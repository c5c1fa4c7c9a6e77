use Rattle.edited_cells.proofs.Compose.{unchanged_outside}
use Rattle.edited_cells.proofs.outside.steps_leave_other_cells.Goals as goal

pub returns : goal.returns
returns c = unchanged_outside

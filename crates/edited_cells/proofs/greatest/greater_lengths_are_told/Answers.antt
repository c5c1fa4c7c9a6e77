use Rattle.edited_cells.proofs.Raised.{raised_done}
use Rattle.edited_cells.proofs.greatest.greater_lengths_are_told.Goals as goal

pub returns : goal.returns
returns c = raised_done

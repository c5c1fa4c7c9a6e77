use Rattle.edited_cells.proofs.Grown.{grown_within}
use Rattle.edited_cells.proofs.rooms.steps_grow_within_their_strain.Goals as goal

pub returns : goal.returns
returns c = grown_within

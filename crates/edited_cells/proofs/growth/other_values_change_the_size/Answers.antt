use Rattle.edited_cells.proofs.Sizes.{revalued_size}
use Rattle.edited_cells.proofs.growth.other_values_change_the_size.Goals as goal

pub returns : goal.returns
returns c = revalued_size

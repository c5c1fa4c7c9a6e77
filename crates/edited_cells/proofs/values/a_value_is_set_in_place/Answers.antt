use Rattle.edited_cells.proofs.SetsInPlace.{set_inside}
use Rattle.edited_cells.proofs.values.a_value_is_set_in_place.Goals as goal

pub returns : goal.returns
returns c = set_inside

use Rattle.edited_cells.proofs.ValueSteps.{a_value_set}
use Rattle.edited_cells.proofs.values.a_value_is_set.Goals as goal

pub returns : goal.returns
returns c = a_value_set

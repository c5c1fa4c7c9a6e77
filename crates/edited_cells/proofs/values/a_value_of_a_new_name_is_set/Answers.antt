use Rattle.edited_cells.proofs.ValueSteps.{a_new_value_set}
use Rattle.edited_cells.proofs.values.a_value_of_a_new_name_is_set.Goals as goal

pub returns : goal.returns
returns c = a_new_value_set

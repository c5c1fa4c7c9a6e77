use Rattle.edited_cells.proofs.ValueSteps.{a_value_deleted}
use Rattle.edited_cells.proofs.values.a_value_is_deleted.Goals as goal

pub returns : goal.returns
returns c = a_value_deleted

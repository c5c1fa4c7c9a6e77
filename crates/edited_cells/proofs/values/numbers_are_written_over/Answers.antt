use Rattle.edited_cells.proofs.Patches.{value_written, values_written}
use Rattle.edited_cells.proofs.values.numbers_are_written_over.Goals as goal

pub returns-clause-value : goal.returns-clause-value
returns-clause-value c = value_written

pub returns-clause-node : goal.returns-clause-node
returns-clause-node c = values_written

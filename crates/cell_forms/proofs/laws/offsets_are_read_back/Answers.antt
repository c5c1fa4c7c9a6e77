use Rattle.hive_model.proofs.Spelling.{offsets_again}
use Rattle.cell_forms.proofs.laws.offsets_are_read_back.Goals as goal

pub returns : goal.returns
returns c = offsets_again
